-- Object identifiers as texts (RFC 4512 section 1.4): the dotted form, and the dotted form of a name.
use Rattle.std.specs.Prelude.{◌≡◌, ℕ, ◌≤◌, ◌<◌, Bool, ◌&&◌, ◌||◌, ◌==◌, not, nat_le, nat_lt, List, ◌++◌, length, map, All, Option, Some, None, slice_index, find, option_map, if◌then◌else◌}
use Rattle.std.specs.Char.{IsAsciiDigit, is_ascii_digit}
use Rattle.std.specs.List.{join_with_byte, slice_split, list_all}
use Rattle.std.specs.Option.{option_or}
use Rattle.schema_tables.specs.Naming.{Named, is_same_name}
use Rattle.schema_tables.specs.Attributes.{Attribute, attributes}
use Rattle.schema_tables.specs.classes.Classes.{Class, classes}
use Rattle.schema_tables.specs.roles.Roles.{roles}

-- number = "0" / a digit other than "0" and any digits: a decimal number without leading zeros
pub record IsNumber (digits : List ℕ) : Type 0 where
  pub some : 0 < length digits
  pub all : All IsAsciiDigit digits
  pub no_leading_zero : (slice_index digits 0 ≡ 48) → length digits ≡ 1

-- numericoid = number 1*( "." number ): at least two such numbers joined by dots
abbrev pub IsDottedOid : List ℕ → Type 0
IsDottedOid text =
    (numbers : List (List ℕ)) × (2 ≤ length numbers) × All IsNumber numbers
    × (text ≡ join_with_byte 46 numbers)

-- `IsNumber` as a test
abbrev pub is_number : List ℕ → Bool
is_number digits =
    nat_lt 0 (length digits) && list_all is_ascii_digit digits
    && (length digits == 1 || not (slice_index digits 0 == 48))

-- the parts of a text between its dots
abbrev pub parts : List ℕ → List (List ℕ)
parts text = slice_split (λ octet. octet == 46) text

-- `IsDottedOid` as a test
unfoldable pub is_dotted_oid : List ℕ → Bool
is_dotted_oid text = nat_le 2 (length (parts text)) && list_all is_number (parts text)

-- an attribute type's name with its object identifier
abbrev pub named_attribute : Attribute → Named
named_attribute row = record { name = row.name; oid = row.oid }

-- a class's name with its object identifier
abbrev pub named_class : Class → Named
named_class row = record { name = row.name; oid = row.oid }

-- each name of the schema: attribute types, then classes, then roles
abbrev pub names : List Named
names = map named_attribute attributes ++ map named_class classes ++ roles

-- the object identifier of the first of these names that the text is
abbrev pub oid_among : List Named → List ℕ → Option (List ℕ)
oid_among rows text = option_map (λ row. row.oid) (find (λ row. is_same_name row.name text) rows)

-- the dotted object identifier for which a text stands: that of a name of the schema, or one that stands for itself
abbrev pub oid_of : List ℕ → Option (List ℕ)
oid_of text = option_or (oid_among names text) (if is_dotted_oid text then Some text else None)
