-- What changes of an entry leave. X.501 leaves the order of attributes and values open; here the earlier ones of
-- both stand first, and what is taken out closes up.
use Rattle.std.specs.Prelude.{ℕ, ◌==◌, nat_lt, Bool, not, if◌then◌else◌, List, [], ◌∷◌, ◌++◌, filter, map, length}
use Rattle.std.specs.Str.{bytes_eq}
use Rattle.dn_names.specs.name.Names.{Keyed}
use Rattle.dir_tree.specs.Entry.{Attribute, EntryInformation, values_of, has_key}

-- the attributes with the value last of its type; a new type comes last
abbrev pub put_value : ℕ → Keyed → List Attribute → List Attribute
put_value kind value [] = record { kind = kind; values = value ∷ [] } ∷ []
put_value kind value (first ∷ rest) =
    if kind == first.kind
    then record first { values = first.values ++ value ∷ [] } ∷ rest
    else first ∷ put_value kind value rest

-- the entry with the value: as it was, where a value of the type has the same key
abbrev pub with_value : ℕ → Keyed → EntryInformation → EntryInformation
with_value kind value entry =
    if has_key value.key (values_of kind entry.attributes) then entry
    else record entry { attributes = put_value kind value entry.attributes }

-- the attributes with these values in place of those of the type; a new type comes last
abbrev pub set_in : ℕ → List Keyed → List Attribute → List Attribute
set_in kind values [] = record { kind = kind; values = values } ∷ []
set_in kind values (first ∷ rest) =
    if kind == first.kind then record first { values = values } ∷ rest else first ∷ set_in kind values rest

-- the entry with these values of the type in place of those that it has
abbrev pub with_values : ℕ → List Keyed → EntryInformation → EntryInformation
with_values kind values entry = record entry { attributes = set_in kind values entry.attributes }

-- the values that have another key
abbrev pub without_key : List ℕ → List Keyed → List Keyed
without_key key values = filter (λ value. not (bytes_eq key value.key)) values

-- the attribute, without the values that have the key where it is of the type
abbrev pub cut_attribute : ℕ → List ℕ → Attribute → Attribute
cut_attribute kind key attribute =
    if kind == attribute.kind then record attribute { values = without_key key attribute.values } else attribute

-- the attribute has a value
abbrev pub is_filled : Attribute → Bool
is_filled attribute = nat_lt 0 (length attribute.values)

-- the attributes without the values of the type that have the key: one that is left with no values goes
abbrev pub cut_attributes : ℕ → List ℕ → List Attribute → List Attribute
cut_attributes kind key attributes = filter is_filled (map (cut_attribute kind key) attributes)

-- the entry without the value of the type that has the key
abbrev pub without_value : ℕ → List ℕ → EntryInformation → EntryInformation
without_value kind key entry = record entry { attributes = cut_attributes kind key entry.attributes }

-- the attributes of other types
abbrev pub other_attributes : ℕ → List Attribute → List Attribute
other_attributes kind attributes = filter (λ attribute. not (kind == attribute.kind)) attributes

-- the entry without its attribute of the type
abbrev pub without_kind : ℕ → EntryInformation → EntryInformation
without_kind kind entry = record entry { attributes = other_attributes kind entry.attributes }
