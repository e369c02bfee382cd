-- What the crates above may cite.
use Rattle.std.proofs.Common.{◌≡◌, ℕ, true, List, [], Option, Some, None, IsSomeAnd, IsTrue, refl, ap, ◌∙◌, arith, inl, inr}
use Rattle.std.specs.Option.{option_map_or}
use Rattle.std.specs.Str.{bytes_eq}
use Rattle.std.proofs.lemmas.Option.{slice_get_cases}
use Rattle.std.proofs.lemmas.Bool.{or_left}
use Rattle.base_laws.proofs.Theorems.{passes_at}
use Rattle.schema_tables.specs.Attributes.{Attribute, attributes, IsAttrId, attribute_at, attr_of, NamesAttribute, name_of}
use Rattle.schema_tables.specs.classes.Classes.{Class, classes, IsClassId, class_at, class_of, class_with, NamesClass}
use Rattle.schema_tables.specs.Naming.{is_named, is_keystring}
use Rattle.schema_tables.specs.Oids.{is_dotted_oid, oid_of, named_attribute, named_class}
use Rattle.schema_tables.proofs.naming.NamingLemmas.{from_same_name}
use Rattle.schema_tables.proofs.attributes.TableLemmas.{position_within}
use Rattle.schema_tables.proofs.laws.FoundLemmas.{position_names, names_position}
use Rattle.schema_tables.proofs.laws.NormalLemmas as normal
use Rattle.schema_tables.proofs.laws.TableFacts.{attributes-are_distinct, classes-are_distinct, attributes-are_keystrings, names-are_keystrings, names-are_dotted}
pub use Rattle.schema_tables.proofs.laws.DottedLemmas.{is_dotted_oid-from, IsDottedOid-from, digit_passes, passes_digit}
pub use Rattle.schema_tables.proofs.superclasses.HierarchyLemmas.{superior_of_below}
pub use Rattle.schema_tables.proofs.superclasses.SuperclassLemmas.{with_superclasses-first}

-- a number that is found is of a row that the text names
pub NamesAttribute-from_attr_of : (text : List ℕ) (number : ℕ) → attr_of text ≡ Some number → NamesAttribute text number
NamesAttribute-from_attr_of text number found =
    let row = names_position (λ row. is_named row.name row.oid text) attributes number found in
    rw row.1 row.2

pub NamesClass-from_class_of : (text : List ℕ) (number : ℕ) → class_of text ≡ Some number → NamesClass text number
NamesClass-from_class_of text number found =
    let row = names_position (λ row. is_named row.name row.oid text) classes number found in
    rw row.1 row.2

-- a row that the text names is found
attr_of_row : (text : List ℕ) (number : ℕ) (row : Option Attribute) → attribute_at number ≡ row
    → IsSomeAnd row (λ row. IsTrue (is_named row.name row.oid text)) → attr_of text ≡ Some number
attr_of_row text number None there names_it = absurd names_it
attr_of_row text number (Some row) there names_it =
    position_names named_attribute text attributes number row attributes-are_distinct there names_it

pub attr_of-from_NamesAttribute : (text : List ℕ) (number : ℕ) → NamesAttribute text number → attr_of text ≡ Some number
attr_of-from_NamesAttribute text number names_it = attr_of_row text number (attribute_at number) refl names_it

class_of_row : (text : List ℕ) (number : ℕ) (row : Option Class) → class_at number ≡ row
    → IsSomeAnd row (λ row. IsTrue (is_named row.name row.oid text)) → class_of text ≡ Some number
class_of_row text number None there names_it = absurd names_it
class_of_row text number (Some row) there names_it =
    position_names named_class text classes number row classes-are_distinct there names_it

pub class_of-from_NamesClass : (text : List ℕ) (number : ℕ) → NamesClass text number → class_of text ≡ Some number
class_of-from_NamesClass text number names_it = class_of_row text number (class_at number) refl names_it

-- each number below the table's length has its row
pub attribute_at-Some : (number : ℕ) → IsAttrId number → (row : Attribute) × (attribute_at number ≡ Some row)
attribute_at-Some number within =
    elim ((slice_get_cases attributes number).1) [
      | inl inside ↦ (inside.0, inside.2)
      | inr past ↦ absurd (omega (arith, past.0))
    ]

-- a number that is found is below the table's length
pub IsAttrId-from_attr_of : (text : List ℕ) (number : ℕ) → attr_of text ≡ Some number → IsAttrId number
IsAttrId-from_attr_of text number found = position_within (λ row. is_named row.name row.oid text) attributes number found

pub IsClassId-from_class_of : (text : List ℕ) (number : ℕ) → class_of text ≡ Some number → IsClassId number
IsClassId-from_class_of text number found = position_within (λ row. is_named row.name row.oid text) classes number found

pub IsClassId-from_class_with : (oid : List ℕ) (number : ℕ) → class_with oid ≡ Some number → IsClassId number
IsClassId-from_class_with oid number found = position_within (λ row. bytes_eq oid row.oid) classes number found

-- a row's own name finds it
pub attr_of-name :
    (number : ℕ) (row : Attribute) → attribute_at number ≡ Some row → attr_of row.name ≡ Some number
attr_of-name number row there =
    attr_of_row row.name number (Some row) there (or_left _ _ (from_same_name row.name row.name refl))

-- the name of a number finds the number, and is a keystring
pub attr_of-name_of : (number : ℕ) → IsAttrId number → attr_of (name_of number) ≡ Some number
attr_of-name_of number within =
    let row = attribute_at-Some number within in
    ap (λ found. attr_of (option_map_or (λ row. row.name) found [])) row.1 ∙ attr_of-name number row.0 row.1

pub is_keystring-name_of : (number : ℕ) → IsAttrId number → is_keystring (name_of number) ≡ true
is_keystring-name_of number within =
    let row = attribute_at-Some number within in
    ap (λ found. is_keystring (option_map_or (λ row. row.name) found [])) row.1
    ∙ passes_at (λ row. is_keystring row.name) attributes number row.0 attributes-are_keystrings row.1

-- the dotted form of a text is dotted, and a dotted text is its own
pub oid_of-is_dotted : (text oid : List ℕ) → oid_of text ≡ Some oid → is_dotted_oid oid ≡ true
oid_of-is_dotted text oid found = normal.oid_of-is_dotted text oid names-are_dotted found

pub oid_of-dotted : (text : List ℕ) → is_dotted_oid text ≡ true → oid_of text ≡ Some text
oid_of-dotted text dotted = normal.oid_of-dotted text names-are_keystrings dotted
