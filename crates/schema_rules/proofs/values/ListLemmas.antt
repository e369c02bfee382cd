-- Tests of lists that are made from other lists, and loops over the places of a list.
use Rattle.std.proofs.Common.{◌≡◌, ℕ, ◌+◌, ◌≤◌, ◌==◌, Bool, true, false, not, ◌&&◌, ◌||◌, if◌then◌else◌, List, [], ◌∷◌, map, length, min, take, slice_get, filter, Option, Some, None, refl, sym, ap, ◌∙◌, inl, inr, true≢false, add-zero, arith}
use Rattle.std.specs.List.{list_any, list_all, filter_map, cons_option, sum_by}
use Rattle.std.specs.Option.{option_map_or}
use Rattle.std.proofs.lemmas.Bool.Decides.{nat_tests}
use Rattle.std.proofs.lemmas.List.{take_all}
use Rattle.std.proofs.lemmas.List.Folds.{list_any_more, list_any_at}
use Rattle.std.proofs.lemmas.List.Sums.{sum_by_more}
use Rattle.std.proofs.lemmas.Option.{slice_get_cases}
use Rattle.std.proofs.Math.Bool.{or-false}

-- a list that is mapped, filtered or both
pub list_any-map :
    {X Y : Type 0} (test : Y → Bool) (item : X → Y) (xs : List X)
    → list_any test (map item xs) ≡ list_any (λ x. test (item x)) xs
list_any-map test item [] = refl
list_any-map test item (x ∷ xs) = ap (λ later. test (item x) || later) (list_any-map test item xs)

pub list_any-filter :
    {X : Type 0} (test passes : X → Bool) (xs : List X)
    → list_any test (filter passes xs) ≡ list_any (λ x. passes x && test x) xs
list_any-filter test passes [] = refl
list_any-filter test passes (x ∷ xs) =
    elim (passes x) as (λ b. list_any test (if b then x ∷ filter passes xs else filter passes xs) ≡ ((b && test x) || list_any (λ x. passes x && test x) xs)) [
      | true ↦ ap (λ later. test x || later) (list_any-filter test passes xs)
      | false ↦ list_any-filter test passes xs
    ]

any_cons :
    {Y : Type 0} (test : Y → Bool) (found : Option Y) (ys : List Y)
    → list_any test (cons_option found ys) ≡ (option_map_or test found false || list_any test ys)
any_cons test None ys = refl
any_cons test (Some y) ys = refl

pub list_any-filter_map :
    {X Y : Type 0} (test : Y → Bool) (find_one : X → Option Y) (xs : List X)
    → list_any test (filter_map find_one xs) ≡ list_any (λ x. option_map_or test (find_one x) false) xs
list_any-filter_map test find_one [] = refl
list_any-filter_map test find_one (x ∷ xs) =
    any_cons test (find_one x) (filter_map find_one xs)
    ∙ ap (λ later. option_map_or test (find_one x) false || later) (list_any-filter_map test find_one xs)

all_cons :
    {Y : Type 0} (test : Y → Bool) (found : Option Y) (ys : List Y)
    → list_all test (cons_option found ys) ≡ (option_map_or test found true && list_all test ys)
all_cons test None ys = refl
all_cons test (Some y) ys = refl

pub list_all-filter_map :
    {X Y : Type 0} (test : Y → Bool) (find_one : X → Option Y) (xs : List X)
    → list_all test (filter_map find_one xs) ≡ list_all (λ x. option_map_or test (find_one x) true) xs
list_all-filter_map test find_one [] = refl
list_all-filter_map test find_one (x ∷ xs) =
    all_cons test (find_one x) (filter_map find_one xs)
    ∙ ap (λ later. option_map_or test (find_one x) true && later) (list_all-filter_map test find_one xs)

pub list_all-filter :
    {X : Type 0} (test passes : X → Bool) (xs : List X)
    → list_all test (filter passes xs) ≡ list_all (λ x. not (passes x) || test x) xs
list_all-filter test passes [] = refl
list_all-filter test passes (x ∷ xs) =
    elim (passes x) as (λ b. list_all test (if b then x ∷ filter passes xs else filter passes xs) ≡ ((not b || test x) && list_all (λ x. not (passes x) || test x) xs)) [
      | true ↦ ap (λ later. test x && later) (list_all-filter test passes xs)
      | false ↦ list_all-filter test passes xs
    ]

-- a filter that keeps nothing
pub none_passes :
    {X : Type 0} (passes : X → Bool) (xs : List X) → (length (filter passes xs) == 0) ≡ not (list_any passes xs)
none_passes passes [] = grind (arith, nat_tests)
none_passes passes (x ∷ xs) =
    elim (passes x) as (λ b. (length (if b then x ∷ filter passes xs else filter passes xs) == 0) ≡ not (b || list_any passes xs)) [
      | true ↦ grind (arith, nat_tests)
      | false ↦ none_passes passes xs
    ]

-- tests that agree
pub list_any-same :
    {X : Type 0} (one other : X → Bool) (xs : List X) → ((x : X) → one x ≡ other x) → list_any one xs ≡ list_any other xs
list_any-same one other [] same = refl
list_any-same one other (x ∷ xs) same =
    ap (λ first. first || list_any one xs) (same x)
    ∙ ap (λ later. other x || later) (list_any-same one other xs same)

-- one place more
pub any_step :
    {X : Type 0} (test : X → Bool) (xs : List X) (index : ℕ)
    → list_any test (take (index + 1) xs) ≡ (list_any test (take index xs) || option_map_or test (slice_get xs index) false)
any_step test xs index =
    elim ((slice_get_cases xs index).1) [
      | inl inside ↦
          list_any_more test xs index inside.0 inside.1
          ∙ ap (λ x. list_any test (take index xs) || test x) inside.3
          ∙ ap (λ found. list_any test (take index xs) || option_map_or test found false) (sym inside.2)
      | inr past ↦
          let bound = past.0 in
          ap (list_any test) (take_all (index + 1) xs (omega arith) ∙ sym (take_all index xs bound))
          ∙ sym (or-false (list_any test (take index xs)))
          ∙ ap (λ found. list_any test (take index xs) || option_map_or test found false) (sym past.1)
    ]

-- so where no element so far passed, and this one doesn't
pub none_more :
    {X : Type 0} (test : X → Bool) (xs : List X) (index : ℕ) → list_any test (take index xs) ≡ false
    → option_map_or test (slice_get xs index) false ≡ false → list_any test (take (index + 1) xs) ≡ false
none_more test xs index none here = any_step test xs index ∙ rw (none, here) refl

-- the element at a place passes
pub any_here :
    {X : Type 0} (test : X → Bool) (xs : List X) (index : ℕ)
    → option_map_or test (slice_get xs index) false ≡ true → list_any test xs ≡ true
any_here test xs index passes =
    elim ((slice_get_cases xs index).1) [
      | inl inside ↦
          list_any_at test xs index inside.0 inside.1
          (ap test inside.3 ∙ ap (λ found. option_map_or test found false) (sym inside.2) ∙ passes)
      | inr past ↦
          absurd (true≢false (sym passes ∙ ap (λ found. option_map_or test found false) past.1))
    ]

-- all places
pub none_at_all :
    {X : Type 0} (test : X → Bool) (xs : List X) (index : ℕ) → list_any test (take index xs) ≡ false → length xs ≤ index
    → list_any test xs ≡ false
none_at_all test xs index none all = ap (list_any test) (sym (take_all index xs all)) ∙ none

-- one term more of a sum
pub sum_step :
    {X Y : Type 0} (count : Y → ℕ) (parts : X → List Y) (xs : List X) (index : ℕ)
    → sum_by (λ x. sum_by count (parts x)) (take (index + 1) xs)
    ≡ sum_by (λ x. sum_by count (parts x)) (take index xs) + sum_by count (option_map_or parts (slice_get xs index) [])
sum_step count parts xs index =
    let so_far = sum_by (λ x. sum_by count (parts x)) (take index xs) in
    elim ((slice_get_cases xs index).1) [
      | inl inside ↦
          sum_by_more (λ x. sum_by count (parts x)) xs index inside.0 inside.1
          ∙ ap (λ x. so_far + sum_by count (parts x)) inside.3
          ∙ ap (λ found. so_far + sum_by count (option_map_or parts found [])) (sym inside.2)
      | inr past ↦
          let bound = past.0 in
          ap (sum_by (λ x. sum_by count (parts x))) (take_all (index + 1) xs (omega arith) ∙ sym (take_all index xs bound))
          ∙ sym (add-zero so_far)
          ∙ ap (λ found. so_far + sum_by count (option_map_or parts found [])) (sym past.1)
    ]

-- and one of a sum that stops at the limit
pub min_more :
    (total so_far more : ℕ) → total ≡ min 67108865 so_far → min 67108865 (total + more) ≡ min 67108865 (so_far + more)
min_more total so_far more is = omega arith
