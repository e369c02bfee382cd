-- What is true of each element of a list is true of those of its parts.
use Rattle.std.proofs.Common.{ℕ, zero, suc, Bool, true, false, if◌then◌else◌, List, [], ◌∷◌, ◌++◌, cond, take, drop}
use Rattle.std.specs.List.{AllByRecursion, flat_map, slice_split, onto_first}
use Rattle.dir_tree.proofs.base_laws_proofs.Theorems.{all_append}

module _ {A : Type 0} (P : A → Type 0) where
  -- of either of two
  pub either_way : (test : Bool) (one other : A) → P one → P other → P (if test then one else other)
  either_way true one other here there = here
  either_way false one other here there = there

  -- of those from the front on
  pub all_take : (count : ℕ) (items : List A) → AllByRecursion P items → AllByRecursion P (take count items)
  all_take zero items all = tt
  all_take (suc count) [] all = tt
  all_take (suc count) (item ∷ items) all = (all.0, all_take count items all.1)

  pub all_drop : (count : ℕ) (items : List A) → AllByRecursion P items → AllByRecursion P (drop count items)
  all_drop zero items all = all
  all_drop (suc count) [] all = tt
  all_drop (suc count) (item ∷ items) all = all_drop count items all.1

  -- of lists in a row
  pub all_joined :
      (lists : List (List A)) → AllByRecursion (λ list. AllByRecursion P list) lists
      → AllByRecursion P (flat_map (λ list. list) lists)
  all_joined [] all = tt
  all_joined (list ∷ lists) all = all_append P list (flat_map (λ list. list) lists) all.0 (all_joined lists all.1)

  -- of the parts between those that pass one
  all_onto_first :
      (item : A) (parts : List (List A)) → P item → AllByRecursion (λ part. AllByRecursion P part) parts
      → AllByRecursion (λ part. AllByRecursion P part) (onto_first item parts)
  all_onto_first item [] here later = ((here, tt), tt)
  all_onto_first item (part ∷ parts) here later = ((here, later.0), later.1)

  cut_or_not :
      (test : Bool) (item : A) (parts : List (List A)) → P item → AllByRecursion (λ part. AllByRecursion P part) parts
      → AllByRecursion (λ part. AllByRecursion P part) (cond test ([] ∷ parts) (onto_first item parts))
  cut_or_not true item parts here later = (tt, later)
  cut_or_not false item parts here later = all_onto_first item parts here later

  pub all_slice_split :
      (test : A → Bool) (items : List A) → AllByRecursion P items
      → AllByRecursion (λ part. AllByRecursion P part) (slice_split test items)
  all_slice_split test [] all = (tt, tt)
  all_slice_split test (item ∷ items) all = cut_or_not (test item) item (slice_split test items) all.0 (all_slice_split test items all.1)
