-- The written form of an entry (RFC 2849, ldif-attrval-record; SAFE-STRING, and base64 where a value is none).
use Rattle.std.specs.Prelude.{ℕ, ◌-◌, ◌==◌, ◌&&◌, not, nat_lt, Bool, if◌then◌else◌, List, [], ◌∷◌, ◌++◌, length, slice_index, codes}
use Rattle.std.specs.List.{list_all, flat_map, AllByRecursion}
use Rattle.base64.specs.Engines.{standard}
use Rattle.base64.specs.GeneralPurpose.{encode_of}
use Rattle.dir_tree.specs.schema_tables.Attributes.{IsAttrId, name_of}
use Rattle.dir_tree.specs.dn_names.name.Names.{Keyed}
use Rattle.dir_tree.specs.dn_names.Printing.{print_name}
use Rattle.dir_tree.specs.Entry.{Attribute, EntryInformation, kinds_of}
use Rattle.ldif_records.specs.lines.Lines.{begins_with}

-- SAFE-CHAR: 1 to 127, but for LF and CR
abbrev pub is_plain_octet : ℕ → Bool
is_plain_octet octet = nat_lt 0 octet && nat_lt octet 128 && not (octet == 10) && not (octet == 13)

-- the last octet is a space
abbrev pub ends_with_space : List ℕ → Bool
ends_with_space octets = slice_index octets (length octets - 1) == 32

-- the octets may stand as they are: SAFE-CHARs, the first no space, colon or `<`, the last no space
unfoldable pub is_plain : List ℕ → Bool
is_plain octets =
    list_all is_plain_octet octets && not (begins_with 32 octets) && not (begins_with 58 octets)
    && not (begins_with 60 octets) && not (ends_with_space octets)

-- what stands after the type: the value as it is, or in base64
unfoldable pub written_value : List ℕ → List ℕ
written_value value = if is_plain value then codes ": " ++ value else codes ":: " ++ encode_of standard value

-- a line of a type and a value
abbrev pub written_line : List ℕ → List ℕ → List ℕ
written_line kind value = kind ++ (written_value value ++ 10 ∷ [])

-- a line for each value of an attribute
abbrev pub written_values : List ℕ → List Keyed → List ℕ
written_values kind values = flat_map (λ value. written_line kind value.octets) values

-- the lines of attributes, in their order
abbrev pub written_attributes : List Attribute → List ℕ
written_attributes attributes = flat_map (λ attribute. written_values (name_of attribute.kind) attribute.values) attributes

-- the record of an entry
unfoldable pub written_entry : EntryInformation → List ℕ
written_entry entry = written_line (codes "dn") (print_name entry.name) ++ written_attributes entry.attributes

-- the types of the attributes are in the table
abbrev pub AreInTable : List Attribute → Type 0
AreInTable attributes = AllByRecursion IsAttrId (kinds_of attributes)
