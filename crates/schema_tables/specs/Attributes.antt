-- The attribute types of the schema (RFC 4519, RFC 4524, RFC 2798; X.501 for the operational ones), as
-- one table. The place of a row, from 0, is the number of its attribute type.
use Rattle.std.specs.Prelude.{ℕ, ◌<◌, Bool, true, false, List, [], ◌∷◌, Option, IsSomeAnd, IsTrue, length, codes, slice_get, position, option_map}
use Rattle.std.specs.Option.{option_map_or}
use Prim.Native.String.{String}
use Rattle.schema_tables.specs.declared.kinds.Syntax.{Syntax}
use Rattle.schema_tables.specs.declared.kinds.Syntax.TheVariants.{Text, Ascii, Phone, Country, Octets, Oid, Name, Subtree, Aci}
use Rattle.schema_tables.specs.declared.kinds.Row.{Row}
use Rattle.schema_tables.specs.Naming.{is_named}

-- a row: the name, the object identifier in dotted form, the syntax of the values, and three marks
pub record Attribute : Type 0 where
  pub name : List ℕ
  pub oid : List ℕ
  pub syntax : Syntax
  pub single : Bool
  pub operational : Bool
  pub naming : Bool

-- the plain value of a row that the program holds
abbrev pub attribute_of_row : Row → Attribute
attribute_of_row row = record {
  name = row.name.now;
  oid = row.oid.now;
  syntax = row.syntax;
  single = row.single;
  operational = row.operational;
  naming = row.naming;
}

-- an attribute type without a mark
abbrev pub plain : String → String → Syntax → Attribute
plain name oid syntax = record {
  name = codes name;
  oid = codes oid;
  syntax = syntax;
  single = false;
  operational = false;
  naming = false;
}

-- one that may name an entry
abbrev pub naming : String → String → Syntax → Attribute
naming name oid syntax = record (plain name oid syntax) { naming = true }

-- one that may name an entry, and has a single value
abbrev pub naming_single : String → String → Syntax → Attribute
naming_single name oid syntax = record (naming name oid syntax) { single = true }

-- one that the server itself reads
abbrev pub operational : String → String → Syntax → Attribute
operational name oid syntax = record (plain name oid syntax) { operational = true }

-- one that the server itself reads, and has a single value
abbrev pub operational_single : String → String → Syntax → Attribute
operational_single name oid syntax = record (operational name oid syntax) { single = true }

-- the table
unfoldable pub attributes : List Attribute
attributes =
    plain "objectClass" "2.5.4.0" Oid
    ∷ naming "cn" "2.5.4.3" Text
    ∷ naming "sn" "2.5.4.4" Text
    ∷ naming "serialNumber" "2.5.4.5" Text
    ∷ naming_single "c" "2.5.4.6" Country
    ∷ naming "l" "2.5.4.7" Text
    ∷ naming "st" "2.5.4.8" Text
    ∷ naming "street" "2.5.4.9" Text
    ∷ naming "o" "2.5.4.10" Text
    ∷ naming "ou" "2.5.4.11" Text
    ∷ naming "title" "2.5.4.12" Text
    ∷ naming "description" "2.5.4.13" Text
    ∷ naming "postalCode" "2.5.4.17" Text
    ∷ plain "telephoneNumber" "2.5.4.20" Phone
    ∷ plain "member" "2.5.4.31" Name
    ∷ plain "owner" "2.5.4.32" Name
    ∷ plain "roleOccupant" "2.5.4.33" Name
    ∷ plain "seeAlso" "2.5.4.34" Name
    ∷ plain "userPassword" "2.5.4.35" Octets
    ∷ naming "givenName" "2.5.4.42" Text
    ∷ naming "initials" "2.5.4.43" Text
    ∷ plain "uniqueMember" "2.5.4.50" Name
    ∷ naming "uid" "0.9.2342.19200300.100.1.1" Text
    ∷ naming "mail" "0.9.2342.19200300.100.1.3" Ascii
    ∷ plain "manager" "0.9.2342.19200300.100.1.10" Name
    ∷ naming_single "dc" "0.9.2342.19200300.100.1.25" Ascii
    ∷ plain "mobile" "0.9.2342.19200300.100.1.41" Phone
    ∷ naming_single "employeeNumber" "2.16.840.1.113730.3.1.3" Text
    ∷ naming_single "displayName" "2.16.840.1.113730.3.1.241" Text
    ∷ operational "administrativeRole" "2.5.18.5" Oid
    ∷ operational_single "subtreeSpecification" "2.5.18.6" Subtree
    ∷ operational_single "accessControlScheme" "2.5.24.1" Oid
    ∷ operational "prescriptiveACI" "2.5.24.4" Aci
    ∷ operational "entryACI" "2.5.24.5" Aci
    ∷ operational "subentryACI" "2.5.24.6" Aci
    ∷ []

-- the number is that of a row
abbrev pub IsAttrId : ℕ → Type 0
IsAttrId number = number < length attributes

-- the row with this number
abbrev pub attribute_at : ℕ → Option Attribute
attribute_at number = slice_get attributes number

-- the number of the row that the text names
abbrev pub attr_of : List ℕ → Option ℕ
attr_of text = position (λ row. is_named row.name row.oid text) attributes

-- the text names the row with this number
abbrev pub NamesAttribute : List ℕ → ℕ → Type 0
NamesAttribute text number = IsSomeAnd (attribute_at number) (λ row. IsTrue (is_named row.name row.oid text))

-- the syntax of the attribute type with this number
abbrev pub syntax_of : ℕ → Option Syntax
syntax_of number = option_map (λ row. row.syntax) (attribute_at number)

-- its name as the table spells it, and no octets for a number past the table
abbrev pub name_of : ℕ → List ℕ
name_of number = option_map_or (λ row. row.name) (attribute_at number) []

-- it may stand in a relative distinguished name
abbrev pub is_naming : ℕ → Bool
is_naming number = option_map_or (λ row. row.naming) (attribute_at number) false

-- an entry has at most one value of it
abbrev pub is_single : ℕ → Bool
is_single number = option_map_or (λ row. row.single) (attribute_at number) false

-- it is operational: a search sends it only where it is asked for
abbrev pub is_operational : ℕ → Bool
is_operational number = option_map_or (λ row. row.operational) (attribute_at number) false
