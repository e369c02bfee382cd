-- What is said of an entry whose classes are broken (objectClassViolation, 65), cause by cause, and of one with two values
-- of a single-valued type (19). All causes that are the case are said.
use Rattle.std.specs.Prelude.{ℕ, nat_lt, Bool, false, not, ◌&&◌, ◌||◌, List, [], ◌∷◌, ◌++◌, length, find, filter, flat_map, codes, Option, Some, None, is_none, if◌then◌else◌}
use Rattle.std.specs.List.{list_any}
use Rattle.std.specs.Option.{option_map_or}
use Rattle.dir_tree.specs.schema_tables.Attributes.{name_of, is_single}
use Rattle.dir_tree.specs.schema_tables.classes.Classes.{class_with}
use Rattle.dir_tree.specs.schema_tables.Superclasses.{with_superclasses}
use Rattle.dir_tree.specs.dn_names.name.Names.{Keyed}
use Rattle.dir_tree.specs.Entry.{EntryInformation, values_of, has_kind}
use Rattle.dir_tree.specs.EntryClasses.{object_class}
use Rattle.ldif_records.specs.declared.types.Record.{Record}
use Rattle.aci_item.specs.Listed.{is_among, required_by, permitted_by, is_structural, are_in_line}
use Rattle.aci_item.specs.Rules.{lists_none, is_permitted_besides, lists_access_alone}
use Rattle.text_stops.specs.Stops.{shown}
use Rattle.fault_places.specs.Saying.{said}
use Rattle.fault_places.specs.LineFaults.{first_line}

-- the number of each attribute type in the table
unfoldable pub all_kinds : List ℕ
all_kinds =
    0 ∷ 1 ∷ 2 ∷ 3 ∷ 4 ∷ 5 ∷ 6 ∷ 7 ∷ 8 ∷ 9 ∷ 10 ∷ 11 ∷ 12 ∷ 13 ∷ 14 ∷ 15 ∷ 16 ∷ 17 ∷ 18 ∷ 19 ∷ 20 ∷ 21 ∷ 22 ∷ 23 ∷ 24 ∷ 25 ∷ 26 ∷ 27
    ∷ 28 ∷ 29 ∷ 30 ∷ 31 ∷ 32 ∷ 33 ∷ 34 ∷ []

-- the classes that the entry lists
abbrev pub listed : EntryInformation → List Keyed
listed entry = values_of object_class entry.attributes

-- a class is listed that is not in the table
abbrev pub unknown_class : ℕ → Keyed → List ℕ
unknown_class line value = if is_none (class_with value.key) then said line (codes "no class " ++ (shown value.octets ++ codes "\n")) else []

-- the listed class is structural
abbrev pub lists_structural : Keyed → Bool
lists_structural value = option_map_or is_structural (class_with value.key) false

-- the structural classes that are listed, each in quotation marks
abbrev pub quoted_class : Keyed → List ℕ
quoted_class value = codes " " ++ shown value.octets

-- two structural classes are not in one line of superclasses
abbrev pub are_apart : Option ℕ → Option ℕ → Bool
are_apart None other = false
are_apart (Some one) None = false
are_apart (Some one) (Some other) = is_structural one && is_structural other && not (are_in_line one other)

abbrev pub is_apart : List Keyed → Keyed → Bool
is_apart values value = list_any (λ other. are_apart (class_with value.key) (class_with other.key)) values

-- no structural class is listed, or two that are not in one line
abbrev pub structural_said : ℕ → List Keyed → List ℕ
structural_said line values =
    if not (list_any lists_structural values) then said line (codes "no structural class is listed\n")
    else if list_any (is_apart values) values
    then said line (codes "structural classes in more than one line of superclasses:" ++ (flat_map quoted_class (filter (is_apart values) values) ++ codes "\n"))
    else []

-- the listed class, or a superclass of it, requires the type
abbrev pub is_required_by : ℕ → Keyed → Bool
is_required_by kind value = option_map_or (λ class. is_among kind (required_by (with_superclasses class))) (class_with value.key) false

-- the same, or allows it
abbrev pub is_permitted_by : ℕ → Keyed → Bool
is_permitted_by kind value = option_map_or (λ class. is_among kind (permitted_by (with_superclasses class))) (class_with value.key) false

-- a type that is required by a listed class and is missing: the first such class
abbrev pub missing_said : ℕ → ℕ → Option Keyed → List ℕ
missing_said line kind None = []
missing_said line kind (Some value) = said line (name_of kind ++ (codes " is missing, which " ++ (shown value.octets ++ codes " requires\n")))

-- a type that no listed class allows
abbrev pub unpermitted_said : Record → EntryInformation → ℕ → List ℕ
unpermitted_said given entry kind =
    if list_any (is_permitted_by kind) (listed entry) || is_permitted_besides kind entry then []
    else said (first_line kind given) (codes "no listed class allows " ++ (name_of kind ++ codes "\n"))

-- what is said of a type
abbrev pub kind_said : Record → EntryInformation → ℕ → List ℕ
kind_said given entry kind =
    if has_kind kind entry.attributes then unpermitted_said given entry kind
    else missing_said given.line kind (find (is_required_by kind) (listed entry))

-- the class of access control subentries is listed without that of subentries
abbrev pub alone_said : ℕ → EntryInformation → List ℕ
alone_said line entry = if lists_access_alone entry then said line (codes "accessControlSubentry is listed without subentry\n") else []

-- all that is broken in the classes that are listed
unfoldable pub listed_said : Record → EntryInformation → List ℕ
listed_said given entry =
    flat_map (unknown_class given.line) (listed entry)
    ++ (structural_said given.line (listed entry)
    ++ (flat_map (kind_said given entry) all_kinds ++ alone_said given.line entry))

-- all that is broken in the classes of an entry
abbrev pub classes_said : Record → EntryInformation → List ℕ
classes_said given entry =
    if lists_none entry then said given.line (codes "objectClass is missing\n") else listed_said given entry

-- a single-valued type with more values
abbrev pub doubled_said : Record → EntryInformation → ℕ → List ℕ
doubled_said given entry kind =
    if is_single kind && nat_lt 1 (length (values_of kind entry.attributes))
    then said (first_line kind given) (name_of kind ++ codes " may have one value, and has more\n") else []

unfoldable pub values_said : Record → EntryInformation → List ℕ
values_said given entry = flat_map (doubled_said given entry) all_kinds
