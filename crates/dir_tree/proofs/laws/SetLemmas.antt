-- Values given to an attribute in place of its own: what the map has, and what stays good.
use Rattle.std.proofs.Common.{◌≡◌, ◌≢◌, ℕ, ◌==◌, false, List, [], ◌∷◌, refl, arith, inl, inr}
use Rattle.std.specs.List.{AllByRecursion, IsDistinct}
use Rattle.std.proofs.lemmas.Bool.{cases_Bool}
use Rattle.std.proofs.lemmas.Bool.Decides.{nat_tests}
use Rattle.base_laws.proofs.Theorems.{number_apart}
use Rattle.indexmap.specs.IndexMap.{insert_entry}
use Rattle.schema_tables.specs.declared.kinds.AttrId.{AttrId}
use Rattle.dn_names.specs.name.Names.{Keyed}
use Rattle.dir_tree.specs.Entry.{Attribute, EntryInformation, kinds_of, values_of, is_match, IsGoodAttribute, IsGoodAttributes}
use Rattle.dir_tree.specs.attributes.Changes.{set_in, with_values}
use Rattle.dir_tree.specs.attributes.Rows.{attributes_of}
use Rattle.dir_tree.proofs.entry.RowLemmas.{is_kind}

-- the map with the values
pub attributes_of-insert_any :
    (kind : AttrId) (values : List Keyed) (rows : List (AttrId × List Keyed))
    → attributes_of (insert_entry is_kind rows kind values) ≡ set_in kind.0 values (attributes_of rows)
attributes_of-insert_any kind values [] = refl
attributes_of-insert_any kind values (row ∷ rows) = grind (arith, attributes_of-insert_any kind values rows)

-- good values leave the attributes good
pub good-set_in :
    (kind : ℕ) (values : List Keyed) (attributes : List Attribute) → values ≢ [] → IsDistinct is_match values
    → AllByRecursion IsGoodAttribute attributes → AllByRecursion IsGoodAttribute (set_in kind values attributes)
good-set_in kind values [] filled distinct good = (record { filled = filled; distinct = distinct }, tt)
good-set_in kind values (first ∷ rest) filled distinct good = elim (cases_Bool (kind == first.kind)) [
  | inl mine ↦ rw mine (record { filled = filled; distinct = distinct }, good.1)
  | inr other ↦ rw other (good.0, good-set_in kind values rest filled distinct good.1)
]

-- and of distinct types
apart-set_in :
    (number kind : ℕ) (values : List Keyed) (attributes : List Attribute) → (number == kind) ≡ false
    → AllByRecursion (λ other. (number == other) ≡ false) (kinds_of attributes)
    → AllByRecursion (λ other. (number == other) ≡ false) (kinds_of (set_in kind values attributes))
apart-set_in number kind values [] new apart = (new, tt)
apart-set_in number kind values (first ∷ rest) new apart = elim (cases_Bool (kind == first.kind)) [
  | inl mine ↦ rw mine (apart.0, apart.1)
  | inr other ↦ rw other (apart.0, apart-set_in number kind values rest new apart.1)
]

pub distinct-set_in :
    (kind : ℕ) (values : List Keyed) (attributes : List Attribute)
    → IsDistinct (λ one other. one == other) (kinds_of attributes)
    → IsDistinct (λ one other. one == other) (kinds_of (set_in kind values attributes))
unfolding IsDistinct
distinct-set_in kind values [] distinct = (tt, tt)
distinct-set_in kind values (first ∷ rest) distinct = elim (cases_Bool (kind == first.kind)) [
  | inl mine ↦ rw mine (distinct.0, distinct.1)
  | inr other ↦ rw other (
    apart-set_in first.kind kind values rest (number_apart kind first.kind other) distinct.0,
    distinct-set_in kind values rest distinct.1,
  )
]

pub good-with_values :
    (kind : ℕ) (values : List Keyed) (entry : EntryInformation) → values ≢ [] → IsDistinct is_match values
    → IsGoodAttributes entry.attributes → IsGoodAttributes (with_values kind values entry).attributes
good-with_values kind values entry filled distinct good = record {
  good = good-set_in kind values entry.attributes filled distinct good.good;
  distinct = distinct-set_in kind values entry.attributes good.distinct;
}

-- the values of the type are these, and those of other types stay
pub values_of-set_in :
    (kind : ℕ) (values : List Keyed) (attributes : List Attribute)
    → values_of kind (set_in kind values attributes) ≡ values
values_of-set_in kind values [] = grind (arith, nat_tests)
values_of-set_in kind values (first ∷ rest) = grind (arith, nat_tests, values_of-set_in kind values rest)

pub values_of-set_other :
    (kind other : ℕ) (values : List Keyed) (attributes : List Attribute) → other ≢ kind
    → values_of other (set_in kind values attributes) ≡ values_of other attributes
values_of-set_other kind other values [] apart = grind (arith, nat_tests)
values_of-set_other kind other values (first ∷ rest) apart =
    grind (arith, nat_tests, values_of-set_other kind other values rest apart)
