-- The classes of an entry (X.501 8.3 and 13.3): those that its objectClass lists, and their superclasses.
use Rattle.std.specs.Prelude.{ℕ, zero, suc, Bool, List, [], ◌∷◌, ◌++◌}
use Rattle.std.specs.List.{flat_map, list_any}
use Rattle.std.specs.Option.{option_map_or}
use Rattle.std.specs.Str.{bytes_eq}
use Rattle.schema_tables.specs.classes.Classes.{class_oid_of, class_with, superior_of}
use Rattle.dir_tree.specs.Entry.{Attribute, EntryInformation, values_of}

-- the number of objectClass in the table of attribute types
abbrev pub object_class : ℕ
object_class = 0

-- the object identifier of the class of this number in the table of classes
abbrev pub own_oid : ℕ → List (List ℕ)
own_oid number = option_map_or (λ oid. oid ∷ []) (class_oid_of number) []

-- that of the class, and those of at most so many superclasses
abbrev pub oids_up : ℕ → ℕ → List (List ℕ)
oids_up zero number = own_oid number
oids_up (suc most) number = own_oid number ++ option_map_or (oids_up most) (superior_of number) []

-- those of the class and of all its superclasses: each superior has a smaller number
abbrev pub oids_of : ℕ → List (List ℕ)
oids_of number = oids_up number number

-- the object identifiers of a listed class and of its superclasses; outside the table a class has its own alone
abbrev pub oids_of_listed : List ℕ → List (List ℕ)
oids_of_listed listed = listed ∷ option_map_or oids_of (class_with listed) []

-- those of all classes that are listed: the key of such a value is an object identifier in dotted form
abbrev pub oids_of_classes : List Attribute → List (List ℕ)
oids_of_classes attributes = flat_map (λ value. oids_of_listed value.key) (values_of object_class attributes)

-- the object identifier is that of a class of the entry: one that it lists, or one above such a class
unfoldable pub has_class : List ℕ → EntryInformation → Bool
has_class oid entry = list_any (bytes_eq oid) (oids_of_classes entry.attributes)
