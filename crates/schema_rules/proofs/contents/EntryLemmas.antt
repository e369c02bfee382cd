-- What the functions of an entry's attributes see of it.
use Rattle.std.proofs.Common.{◌≡◌, ◌≢◌, ℕ, ◌==◌, true, false, not, ◌||◌, if◌then◌else◌, List, [], ◌∷◌, length, slice_get, Some, None, refl, sym, ap, ◌∙◌, inl, inr, arith}
use Rattle.std.specs.List.{AllByRecursion}
use Rattle.std.specs.Option.{option_map, option_map_or}
use Rattle.std.proofs.lemmas.Bool.Decides.{nat_tests}
use Rattle.std.proofs.lemmas.Option.{slice_get_cases, slice_get-map, same_Some, none-some}
use Rattle.dir_tree.specs.Entry.{Attribute, IsGoodAttribute, IsGoodAttributes, values_of, has_kind, kinds_of}
use Rattle.dir_tree.proofs.Theorems.{values_of-slice_get}

-- a list with elements is not empty
not_empty : {X : Type 0} (xs : List X) → xs ≢ [] → not (length xs == 0) ≡ true
not_empty [] filled = absurd (filled refl)
not_empty (x ∷ xs) filled = grind (arith, nat_tests)

-- an attribute has a value, so a type is there exactly where it has values
pub filled_kind :
    (kind : ℕ) (attributes : List Attribute) → AllByRecursion IsGoodAttribute attributes
    → not (length (values_of kind attributes) == 0) ≡ has_kind kind attributes
filled_kind kind [] good = grind (arith, nat_tests)
filled_kind kind (first ∷ rest) good =
    elim (kind == first.kind) as (λ b. not (length (if b then first.values else values_of kind rest) == 0) ≡ (b || has_kind kind rest)) [
      | true ↦ not_empty first.values good.0.filled
      | false ↦ filled_kind kind rest good.1
    ]

-- the values at a place are those of the type at the place
pub values_there :
    (attributes : List Attribute) (index kind : ℕ) → IsGoodAttributes attributes
    → Some kind ≡ slice_get (kinds_of attributes) index
    → values_of kind attributes ≡ option_map_or (λ attribute. attribute.values) (slice_get attributes index) []
values_there attributes index kind good is =
    elim ((slice_get_cases attributes index).1) [
      | inl inside ↦
          let same : Some kind ≡ Some inside.0.kind =
          is ∙ slice_get-map (λ attribute. attribute.kind) attributes index
          ∙ ap (option_map (λ attribute. attribute.kind)) inside.2 in
          ap (λ kind. values_of kind attributes) (same_Some kind inside.0.kind same)
          ∙ values_of-slice_get attributes index inside.0 good.distinct inside.2
          ∙ ap (λ found. option_map_or (λ attribute. attribute.values) found []) (sym inside.2)
      | inr past ↦
          absurd (none-some kind (sym (is ∙ slice_get-map (λ attribute. attribute.kind) attributes index
          ∙ ap (option_map (λ attribute. attribute.kind)) past.1)))
    ]

pub none_there :
    (attributes : List Attribute) (index : ℕ) → None ≡ slice_get (kinds_of attributes) index
    → [] ≡ option_map_or (λ attribute. attribute.values) (slice_get attributes index) []
none_there attributes index is =
    elim ((slice_get_cases attributes index).1) [
      | inl inside ↦
          absurd (none-some inside.0.kind (is ∙ slice_get-map (λ attribute. attribute.kind) attributes index
          ∙ ap (option_map (λ attribute. attribute.kind)) inside.2))
      | inr past ↦ ap (λ found. option_map_or (λ attribute. attribute.values) found []) (sym past.1)
    ]
