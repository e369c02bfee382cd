-- Those of the least key are those whose key is what `min` leaves of all keys.
use Rattle.std.proofs.Common.{◌≡◌, ◌⊎◌, inl, inr, ℕ, ◌≤◌, ◌==◌, true, List, [], ◌∷◌, map, filter, Some, refl, sym, subst, arith}
use Rattle.std.specs.Prelude.{fold, min}
use Rattle.std.specs.List.{AllByRecursion, list_any, reduce}
use Rattle.std.proofs.lemmas.Bool.{cases_order, eq-eqb, or_right}
use Rattle.std.proofs.lemmas.Option.{same_Some}
use Rattle.acdf_filters.specs.users.Choices.{lowest}
use Rattle.acdf_filters.proofs.Theorems.{lowest-at}

-- what is left is above none
fold-least : {A : Type 0} (key : A → ℕ) (n : ℕ) (xs : List A)
    → (fold min n (map key xs) ≤ n) × AllByRecursion (λ x. fold min n (map key xs) ≤ key x) xs
fold-least key n [] = (omega arith, tt)
fold-least key n (x ∷ xs) = let later = fold-least key (min n (key x)) xs in let first = later.0 in (omega arith, (omega arith, later.1))

-- and is one of them
fold-reached : {A : Type 0} (key : A → ℕ) (n : ℕ) (xs : List A)
    → (fold min n (map key xs) ≡ n) ⊎ (list_any (λ x. key x == fold min n (map key xs)) xs ≡ true)
fold-reached key n [] = inl refl
fold-reached key n (x ∷ xs) =
    let last = fold min (min n (key x)) (map key xs) in
    elim (fold-reached key (min n (key x)) xs) [
      | inl e ↦ elim (cases_order n (key x)) [
        | inl same ↦ inl (omega arith)
        | inr (inl below) ↦ inl (omega arith)
        | inr (inr above) ↦ inr (rw (eq-eqb (key x) last (omega arith)) refl)
      ]
      | inr e ↦ inr (or_right (key x == last) (list_any (λ y. key y == last) xs) e)
    ]

pub lowest-reduced : {A : Type 0} (key : A → ℕ) (n : ℕ) (xs : List A) → reduce min (map key xs) ≡ Some n → lowest key xs ≡ filter (λ x. key x == n) xs
lowest-reduced key n [] e = absurd cc
lowest-reduced key n (x ∷ xs) e =
    let last = fold min (key x) (map key xs) in
    let reached : list_any (λ y. key y == last) (x ∷ xs) ≡ true = elim (fold-reached key (key x) xs) [
      | inl same ↦ rw (eq-eqb (key x) last (sym same)) refl
      | inr later ↦ or_right (key x == last) (list_any (λ y. key y == last) xs) later
    ] in
    subst (λ (m : ℕ). lowest key (x ∷ xs) ≡ filter (λ y. key y == m) (x ∷ xs)) (same_Some last n e)
    (lowest-at key last (x ∷ xs) (fold-least key (key x) xs) (λ filled. reached))
