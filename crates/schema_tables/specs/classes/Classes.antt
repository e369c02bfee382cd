-- The object classes of the schema (RFC 4519, RFC 4524, RFC 2798; X.501 and RFC 3672 for the two of
-- subentries), as one table, their attributes cut to the attribute types of this schema. The place of a
-- row, from 0, is the number of its class.
use Rattle.std.specs.Prelude.{ℕ, ◌<◌, ◌==◌, List, [], ◌∷◌, ◌++◌, Option, IsSomeAnd, IsTrue, length, codes, slice_get, position, option_map, option_and_then}
use Rattle.std.specs.List.{filter_map, slice_split}
use Rattle.std.specs.Option.{option_map_or}
use Rattle.std.specs.Str.{bytes_eq}
use Prim.Native.String.{String}
use Rattle.schema_tables.specs.declared.kinds.ClassKind.{ClassKind}
use Rattle.schema_tables.specs.declared.kinds.ClassKind.TheVariants.{Abstract, Structural, Auxiliary}
use Rattle.schema_tables.specs.Naming.{is_named}
use Rattle.schema_tables.specs.Attributes.{attr_of}

-- a row: the name, the object identifier in dotted form, the kind, the name of the superior, and the
-- names of the attribute types that an entry of the class must have and may have besides
pub record Class : Type 0 where
  pub name : List ℕ
  pub oid : List ℕ
  pub kind : ClassKind
  pub superior : List ℕ
  pub required : List (List ℕ)
  pub allowed : List (List ℕ)

-- the words of a text, with one space between each two
abbrev pub words : String → List (List ℕ)
words text = slice_split (λ octet. octet == 32) (codes text)

-- a row of those texts
abbrev pub class : String → String → ClassKind → String → List (List ℕ) → List (List ℕ) → Class
class name oid kind superior required allowed = record {
  name = codes name;
  oid = codes oid;
  kind = kind;
  superior = codes superior;
  required = required;
  allowed = allowed;
}

-- the attribute types that every kind of organization may have
abbrev pub organizational : List (List ℕ)
organizational = words "userPassword seeAlso telephoneNumber street postalCode st l description"

-- the table
unfoldable pub classes : List Class
classes =
    class "top" "2.5.6.0" Abstract "" (words "objectClass") []
    ∷ class "country" "2.5.6.2" Structural "top" (words "c") (words "description")
    ∷ class "locality" "2.5.6.3" Structural "top" [] (words "street seeAlso st l description")
    ∷ class "organization" "2.5.6.4" Structural "top" (words "o") organizational
    ∷ class "organizationalUnit" "2.5.6.5" Structural "top" (words "ou") organizational
    ∷ class "person" "2.5.6.6" Structural "top" (words "sn cn")
    (words "userPassword telephoneNumber seeAlso description")
    ∷ class "organizationalPerson" "2.5.6.7" Structural "person" []
    (words "title street postalCode ou st l")
    ∷ class "organizationalRole" "2.5.6.8" Structural "top" (words "cn")
    (words "telephoneNumber seeAlso roleOccupant street postalCode ou st l description")
    ∷ class "groupOfNames" "2.5.6.9" Structural "top" (words "member cn")
    (words "seeAlso owner ou o description")
    ∷ class "device" "2.5.6.14" Structural "top" (words "cn")
    (words "serialNumber seeAlso owner ou o l description")
    ∷ class "groupOfUniqueNames" "2.5.6.17" Structural "top" (words "uniqueMember cn")
    (words "seeAlso owner ou o description")
    ∷ class "domain" "0.9.2342.19200300.100.4.13" Structural "top" (words "dc")
    (organizational ++ words "o")
    ∷ class "account" "0.9.2342.19200300.100.4.5" Structural "top" (words "uid")
    (words "description seeAlso l o ou")
    ∷ class "inetOrgPerson" "2.16.840.1.113730.3.2.2" Structural "organizationalPerson" []
    (words "displayName employeeNumber givenName initials mail manager mobile o uid")
    ∷ class "dcObject" "1.3.6.1.4.1.1466.344" Auxiliary "top" (words "dc") []
    ∷ class "uidObject" "1.3.6.1.1.3.1" Auxiliary "top" (words "uid") []
    ∷ class "simpleSecurityObject" "0.9.2342.19200300.100.4.19" Auxiliary "top" (words "userPassword") []
    ∷ class "subentry" "2.5.17.0" Structural "top" (words "cn subtreeSpecification") []
    ∷ class "accessControlSubentry" "2.5.17.1" Auxiliary "top" [] (words "prescriptiveACI")
    ∷ []

-- the number is that of a row
abbrev pub IsClassId : ℕ → Type 0
IsClassId number = number < length classes

-- the row with this number
abbrev pub class_at : ℕ → Option Class
class_at number = slice_get classes number

-- the number of the row that the text names
abbrev pub class_of : List ℕ → Option ℕ
class_of text = position (λ row. is_named row.name row.oid text) classes

-- the number of the row that has the object identifier
abbrev pub class_with : List ℕ → Option ℕ
class_with oid = position (λ row. bytes_eq oid row.oid) classes

-- the text names the row with this number
abbrev pub NamesClass : List ℕ → ℕ → Type 0
NamesClass text number = IsSomeAnd (class_at number) (λ row. IsTrue (is_named row.name row.oid text))

-- the kind of the class with this number
abbrev pub kind_of : ℕ → Option ClassKind
kind_of number = option_map (λ row. row.kind) (class_at number)

-- its name as the table spells it, and no octets for a number past the table
abbrev pub class_name_of : ℕ → List ℕ
class_name_of number = option_map_or (λ row. row.name) (class_at number) []

-- its object identifier in dotted form
abbrev pub class_oid_of : ℕ → Option (List ℕ)
class_oid_of number = option_map (λ row. row.oid) (class_at number)

-- the number of its immediate superior; `top` has none
abbrev pub superior_of : ℕ → Option ℕ
superior_of number = option_and_then (λ row. class_of row.superior) (class_at number)

-- the numbers of the attribute types with these names
abbrev pub numbers_of : List (List ℕ) → List ℕ
numbers_of names = filter_map attr_of names

-- what an entry of the class must have, by this row alone: a superior's attributes stand in its own row
abbrev pub required_of : ℕ → List ℕ
required_of number = option_map_or (λ row. numbers_of row.required) (class_at number) []

-- what it may have besides, by this row alone
abbrev pub allowed_of : ℕ → List ℕ
allowed_of number = option_map_or (λ row. numbers_of row.allowed) (class_at number) []
