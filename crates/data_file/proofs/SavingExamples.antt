-- The law on a tree of two entries: an organization and a unit below it. What the law asks of them computes.
use Rattle.std.proofs.Common.{◌≡◌, ℕ, List, [], ◌∷◌, ◌++◌, codes, Some, None, Ok, true, refl, arith}
use Rattle.std.proofs.Math.Utf8.{encode}
use Rattle.std.specs.List.{IsDistinct}
use Rattle.std.specs.Str.{chars, is_utf8}
use Rattle.std.proofs.lemmas.Str.{IsUtf8-from_is_utf8}
use Rattle.caseless.proofs.Computing.{caseless}
use Prim.Native.String.{String}
use Rattle.dir_tree.specs.match_rules.Folding.{folded_octets}
use Rattle.dir_tree.specs.match_rules.Keys.{prepared_text, key_of}
use Rattle.dir_tree.specs.match_rules.Syntaxes.{is_of}
use Rattle.dir_tree.specs.schema_tables.Attributes.{attributes}
use Rattle.dir_tree.specs.schema_tables.classes.Classes.{classes}
use Rattle.dir_tree.specs.dn_names.name.GoodNames.{IsGoodRdn}
use Rattle.dir_tree.specs.dn_names.name.Names.{Keyed}
use Rattle.dir_tree.specs.dn_names.NameOrder.{name_cmp, is_same}
use Rattle.dir_tree.specs.dn_names.NameValues.{value_of}
use Rattle.dir_tree.specs.dn_names.Resolving.{naming_value}
use Rattle.dir_tree.specs.Entry.{EntryInformation, IsGoodAttribute}
use Rattle.dir_tree.specs.EntryClasses.{has_class}
use Rattle.dir_tree.specs.Points.{is_subentry, is_access_subentry}
use Rattle.dir_tree.specs.tree.Trees.{IsTree}
use Rattle.ldif_load.specs.ldif_records.writing.WrittenFile.{written_file}
use Rattle.aci_item.specs.Rules.{lacks_own_value, has_other_structural, breaks_classes, has_unread, has_two_values, is_misplaced, is_past_limits, broken_rule, MeetsRules, IsGoodTree}
use Rattle.ldif_load.specs.load.Loading.{loaded_value}
use Rattle.ldif_load.specs.load.DataFile.{loads}
use Rattle.data_file.specs.Loadable.{IsLoadableValue, IsLoadable}
use Rattle.data_file.proofs.laws.OctetLemmas.{IsBytes-from_AreBelow, IsBytes-from_IsUtf8}
use Rattle.data_file.proofs.laws.ValueLemmas.{IsLoadableValue-loaded}
use Rattle.data_file.proofs.laws.LoadLemmas.{loads-written_file}

-- a value of octets, with its key
abbrev value : String → String → Keyed
value octets key = record { octets = codes octets; key = codes key }

-- the two values of names
abbrev acme : Keyed
acme = value "Acme" "acme"

abbrev people : Keyed
people = value "People" "people"

-- o=Acme, an organization
abbrev organization : EntryInformation
organization = record {
  name = (record { kind = 8; value = acme } ∷ []) ∷ [];
  attributes =
      record { kind = 0; values = value "organization" "2.5.6.4" ∷ [] } ∷ record { kind = 8; values = acme ∷ [] } ∷ [];
}

-- ou=People,o=Acme, a unit
abbrev unit : EntryInformation
unit = record {
  name = (record { kind = 8; value = acme } ∷ []) ∷ (record { kind = 9; value = people } ∷ []) ∷ [];
  attributes =
      record { kind = 0; values = value "organizationalUnit" "2.5.6.5" ∷ [] } ∷ record { kind = 9; values = people ∷ [] } ∷ [];
}

-- the tree, the suffix first
abbrev entries : List EntryInformation
entries = organization ∷ unit ∷ []

-- what computes a key, and a rule
unfoldable keys : Unit {0}
unfolding caseless encode chars is_utf8 folded_octets prepared_text key_of is_of attributes classes value_of naming_value
keys = tt

unfoldable rules : Unit {0}
unfolding broken_rule lacks_own_value has_other_structural breaks_classes has_unread has_two_values is_misplaced is_past_limits has_class is_subentry is_access_subentry name_cmp is_same attributes classes
rules = tt

-- each value is read from its octets
read_class : loaded_value 0 (codes "organization") ≡ Some (value "organization" "2.5.6.4")
unfolding keys
read_class = refl

read_unit : loaded_value 0 (codes "organizationalUnit") ≡ Some (value "organizationalUnit" "2.5.6.5")
unfolding keys
read_unit = refl

read_acme : loaded_value 8 (codes "Acme") ≡ Some acme
unfolding keys
read_acme = refl

read_people : loaded_value 9 (codes "People") ≡ Some people
unfolding keys
read_people = refl

-- a password too, which need not be a text: what is loaded of octets is loadable
password : Keyed
password = record { octets = 255 ∷ []; key = 255 ∷ [] }

read_password : loaded_value 18 (255 ∷ []) ≡ Some password
unfolding keys password
read_password = refl

loadable_password : IsLoadableValue 18 password
loadable_password = IsLoadableValue-loaded 18 (255 ∷ []) password (IsBytes-from_AreBelow (255 ∷ []) (omega arith, tt)) read_password

-- and so is each value of a name
name_acme : naming_value 8 (codes "Acme") ≡ Some acme
unfolding keys
name_acme = refl

name_people : naming_value 9 (codes "People") ≡ Some people
unfolding keys
name_people = refl

-- neither entry breaks a rule beside the other
meets_organization : broken_rule None (unit ∷ []) organization ≡ None
unfolding rules
meets_organization = refl

meets_unit : broken_rule None (organization ∷ []) unit ≡ None
unfolding rules
meets_unit = refl

-- each meets the rules among the others
nothing : {X : Type 0} (front back : List X) (x : X) → [] ≡ front ++ x ∷ back → ⊥
nothing [] back x is = cc
nothing (first ∷ front) back x is = cc

each_of_two :
    {X : Type 0} (P : List X → X → Type 0) (one other : X) → P (other ∷ []) one → P (one ∷ []) other
    → (front back : List X) (x : X) → one ∷ other ∷ [] ≡ front ++ x ∷ back → P (front ++ back) x
each_of_two P one other holds later [] back x is =
    let same : one ≡ x = cc in
    let rest : other ∷ [] ≡ back = cc in
    rw (← same, ← rest) holds
each_of_two P one other holds later (first ∷ []) back x is =
    let before : one ≡ first = cc in
    let same : other ≡ x = cc in
    let rest : [] ≡ back = cc in
    rw (← before, ← same, ← rest) later
each_of_two P one other holds later (first ∷ second ∷ front) back x is =
    absurd (nothing front back x (let rest : [] ≡ front ++ x ∷ back = cc in rest))

meets : MeetsRules entries
meets = each_of_two (λ others entry. broken_rule None others entry ≡ None) organization unit meets_organization meets_unit

-- the entries are a tree
tree : IsTree entries
unfolding name_cmp is_same
tree = record {
  sorted = ((refl, tt), (tt, tt));
  rooted = (refl, tt);
  named = (λ is. cc, (λ is. cc, tt));
  fits = omega arith;
}

-- its entries are loadable
one_value : (kind : ℕ) (one : Keyed) → is_utf8 one.octets ≡ true → loaded_value kind one.octets ≡ Some one → IsLoadableValue kind one
one_value kind one text found = record {
  octets = IsBytes-from_IsUtf8 one.octets (IsUtf8-from_is_utf8 one.octets text);
  value_read = found;
}

one_attribute : (kind : ℕ) (one : Keyed) → IsGoodAttribute (record { kind = kind; values = one ∷ [] })
unfolding IsDistinct
one_attribute kind one = record { filled = λ is. cc; distinct = (tt, tt) }

one_pair : (kind : ℕ) (one : Keyed) → naming_value kind one.octets ≡ Some one → IsGoodRdn (record { kind = kind; value = one } ∷ [])
one_pair kind one named = record { filled = λ is. cc; good = (named, tt); ordered = (tt, tt) }

loadable_organization : IsLoadable organization
unfolding IsDistinct is_utf8 chars encode
loadable_organization = record {
  name = record { fits = omega arith; good = (one_pair 8 acme name_acme, tt) };
  good = record {
    good = (one_attribute 0 (value "organization" "2.5.6.4"), (one_attribute 8 acme, tt));
    distinct = ((refl, tt), (tt, tt));
  };
  values = ((one_value 0 (value "organization" "2.5.6.4") refl read_class, tt), ((one_value 8 acme refl read_acme, tt), tt));
}

loadable_unit : IsLoadable unit
unfolding IsDistinct is_utf8 chars encode
loadable_unit = record {
  name = record { fits = omega arith; good = (one_pair 8 acme name_acme, (one_pair 9 people name_people, tt)) };
  good = record {
    good = (one_attribute 0 (value "organizationalUnit" "2.5.6.5"), (one_attribute 9 people, tt));
    distinct = ((refl, tt), (tt, tt));
  };
  values = ((one_value 0 (value "organizationalUnit" "2.5.6.5") refl read_unit, tt), ((one_value 9 people refl read_people, tt), tt));
}

-- so the tree is good
good : IsGoodTree entries
good = record {
  some = λ is. cc;
  good = record {
    tree = tree;
    names = (loadable_organization.name, (loadable_unit.name, tt));
    attributes = (loadable_organization.good, (loadable_unit.good, tt));
    meets = meets;
  };
}

-- and its file gives it
loaded : loads (written_file entries) ≡ Ok entries
loaded = loads-written_file entries good (loadable_organization, (loadable_unit, tt))
