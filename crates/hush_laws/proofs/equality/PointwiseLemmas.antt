-- Two lists compared place by place.
use Rattle.std.proofs.Common.{◌≡◌, ℕ, suc, zero, Bool, ◌&&◌, List, [], ◌∷◌, drop, Some, refl}
use Rattle.std.specs.Prelude.{slice_get}
use Rattle.std.specs.Cmp.Lexicographic.{pointwise}

-- where both have an element at a place, these and what follows decide
pub pointwise-at : {A : Type 0} (E : A → A → Bool) (xs ys : List A) (i : ℕ) (x y : A) → slice_get xs i ≡ Some x → slice_get ys i ≡ Some y
    → pointwise E (drop i xs) (drop i ys) ≡ (E x y && pointwise E (drop (suc i) xs) (drop (suc i) ys))
pointwise-at E [] ys i x y here there = absurd cc
pointwise-at E (first ∷ xs) [] i x y here there = absurd cc
pointwise-at E (first ∷ xs) (second ∷ ys) zero x y here there =
    let one : first ≡ x = cc in
    let other : second ≡ y = cc in
    rw (one, other) refl
pointwise-at E (first ∷ xs) (second ∷ ys) (suc i) x y here there = pointwise-at E xs ys i x y here there
