-- Attribute types and values that stand for bad parts, and numbers that are read.
use Rattle.std.proofs.Common.{◌≡◌, ℕ, ◌≤◌, ◌==◌, Bool, true, false, List, [], ◌∷◌, length, map, refl, ap, ◌∙◌, arith}
use Rattle.std.proofs.lemmas.Str.{IsUtf8-nil, is_utf8-from_IsUtf8}
use Rattle.std.specs.Str.{IsUtf8, is_utf8}
use Rattle.std.specs.Prelude.{Option, Some, None, nat_le, if◌then◌else◌}
use Rattle.std.specs.Str.Parse.{digits_value}
use Rattle.dir_tree.specs.match_rules.Keys.{key_of}
use Rattle.dir_tree.specs.match_rules.Syntaxes.{is_of}
use Rattle.dir_tree.specs.schema_tables.Attributes.{attributes, IsAttrId}
use Rattle.dir_tree.specs.dn_names.name.Names.{Keyed}
use Rattle.dir_tree.specs.dn_names.NameValues.{value_of}
use Rattle.dir_tree.proofs.dn_names_proofs.Theorems.{value_of-octets}
use Rattle.gser_tree.specs.declared.part.Part.{Part}
use Rattle.gser_tree.specs.looking.Looking.{word_in}
use Rattle.gser_tree.specs.Reading.{Found, expect, part, noted, is_number, at_most, number, nothing_left, ◌>>=◌}
use Rattle.gser_tree.specs.looking.Shapes.{Shape}
use Rattle.gser_tree.specs.Tree.{shape_of}
use Rattle.gser_tree.specs.declared.tree.Tree.{Tree}
use Rattle.aci_item.specs.members.ItemParts.{no_octets}

-- objectClass and userPassword are in the table
pub object_class : IsAttrId 0
unfolding attributes
object_class = omega arith

pub user_password : IsAttrId 18
unfolding attributes
user_password = omega arith

-- no octets are a password
pub no_password : value_of 18 [] ≡ Some no_octets
unfolding value_of attributes key_of is_of
no_password = refl

same_value : (one other : Found ℕ) → Some one ≡ Some other → one.value ≡ other.value
same_value one other h = let same : one ≡ other = cc in ap (λ (f : Found ℕ). f.value) same

-- a number that is read is not above its limit
pub number_within : (most : ℕ) (shape : Shape) (bad next : Option ℕ) (value : ℕ) → number most shape bad ≡ Some (record { value = value; bad = next }) → value ≤ most
unfolding number
number_within most shape bad next value h = outer (word_in shape) h
  where
    digits : (place read : ℕ) (fits : Bool) → nat_le read most ≡ fits
        → part place 0 (if fits then Some read else None) bad ≡ Some (record { value = value; bad = next }) → value ≤ most
    digits place read true is h =
        let same : read ≡ value = same_value (record { value = read; bad = bad }) (record { value = value; bad = next }) h in
        grind arith
    digits place read false is h =
        let same : 0 ≡ value = same_value (record { value = 0; bad = noted bad place }) (record { value = value; bad = next }) h in
        omega arith

    inner : (word : Part) (good : Bool)
        → (if good then part word.place 0 (at_most most word.text) else λ (bad : Option ℕ). None) bad ≡ Some (record { value = value; bad = next }) → value ≤ most
    inner word true h = digits word.place (digits_value 10 word.text) (nat_le (digits_value 10 word.text) most) refl h
    inner word false h = cc

    outer : (word : Option Part)
        → (expect word >>= λ (word : Part). if is_number word.text then part word.place 0 (at_most most word.text) else λ bad. None) bad
        ≡ Some (record { value = value; bad = next }) → value ≤ most
    outer None h = cc
    outer (Some word) h = inner word (is_number word.text) h

pub password_value : (octets : List ℕ) (value : Keyed) → octets ≡ [] → value_of 18 octets ≡ Some value → value ≡ no_octets
password_value octets value is h = let known : value_of 18 octets ≡ Some no_octets = ap (value_of 18) is ∙ no_password in cc

-- members that are left misfit
pub left_misfits : {A : Type 0} (trees : List Tree) (value : A) (bad : Option ℕ) → (length trees == 0) ≡ false
    → nothing_left (map shape_of trees) value bad ≡ None
left_misfits [] value bad h = absurd cc
left_misfits (tree ∷ trees) value bad h = refl

-- a value that is made of a text is a text
pub text_value : (kind : ℕ) (octets text : List ℕ) (value : Keyed) → value_of kind octets ≡ Some value → octets ≡ text → IsUtf8 text
    → is_utf8 value.octets ≡ true
text_value kind octets text value made is good =
    ap is_utf8 (value_of-octets kind octets value made ∙ is) ∙ is_utf8-from_IsUtf8 text good

pub no_octets_text : (value : Keyed) → value ≡ no_octets → is_utf8 value.octets ≡ true
no_octets_text value is = ap (λ (v : Keyed). is_utf8 v.octets) is ∙ is_utf8-from_IsUtf8 [] IsUtf8-nil
