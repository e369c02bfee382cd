-- Two texts differ right behind their longest common front.
use Rattle.std.proofs.Common.{◌≡◌, if◌then◌else◌, ℕ, suc, ◌+◌, ◌==◌, Bool, true, false, ◌&&◌, List, [], ◌∷◌, take, Some, None, refl, ap₂, subst, arith}
use Rattle.std.specs.Str.{bytes_eq}
use Rattle.std.proofs.lemmas.Slice.Eq.{bytes_eq-Decides}
use Rattle.std.proofs.lemmas.Bool.Decides.{Decides-eqb}
use Rattle.hush_laws.specs.Audits.{common_front, first_difference}

pub first_difference-same : (text : List ℕ) → first_difference text text ≡ None
first_difference-same text = rw ((bytes_eq-Decides text text).1 refl) refl

pub same-from_none : (one other : List ℕ) → first_difference one other ≡ None → one ≡ other
same-from_none one other none = by (bytes_eq one other) refl none
  where
    by : (same : Bool) → bytes_eq one other ≡ same → (if same then None else Some (common_front one other)) ≡ None → one ≡ other
    by true is none = (bytes_eq-Decides one other).0 is
    by false is none = absurd cc

-- the place of a difference
differing : (one other : List ℕ) (count : ℕ) → first_difference one other ≡ Some count → (bytes_eq one other ≡ false) × (common_front one other ≡ count)
differing one other count found = by (bytes_eq one other) refl found
  where
    by : (same : Bool) → bytes_eq one other ≡ same → (if same then None else Some (common_front one other)) ≡ Some count → (bytes_eq one other ≡ false) × (common_front one other ≡ count)
    by true is found = absurd cc
    by false is found = (is, cc)

-- the front is that of both
front-common : (one other : List ℕ) → take (common_front one other) one ≡ take (common_front one other) other
front-common [] other = refl
front-common (x ∷ one) [] = refl
front-common (x ∷ one) (y ∷ other) = by (x == y) refl (front-common one other)
  where
    by : (same : Bool) → (x == y) ≡ same → take (common_front one other) one ≡ take (common_front one other) other
        → take (if same then 1 + common_front one other else 0) (x ∷ one) ≡ take (if same then 1 + common_front one other else 0) (y ∷ other)
    by true is later =
        let one_more : suc (common_front one other) ≡ 1 + common_front one other = omega arith in
        subst (λ n. take n (x ∷ one) ≡ take n (y ∷ other)) one_more (ap₂ (λ z rest. z ∷ rest) ((Decides-eqb x y).0 is) later)
    by false is later = refl

pub front-same : (one other : List ℕ) (count : ℕ) → first_difference one other ≡ Some count → take count one ≡ take count other
front-same one other count found =
    let found_at = differing one other count found in
    subst (λ n. take n one ≡ take n other) found_at.1 (front-common one other)

-- and an octet more is not
longer-differs : (one other : List ℕ) → bytes_eq one other ≡ false → take (suc (common_front one other)) one ≡ take (suc (common_front one other)) other → ⊥
longer-differs [] [] differ same = cc
longer-differs [] (y ∷ other) differ same = cc
longer-differs (x ∷ one) [] differ same = cc
longer-differs (x ∷ one) (y ∷ other) differ same = by (x == y) refl (longer-differs one other) differ same
  where
    by : (first : Bool) → (x == y) ≡ first
        → (bytes_eq one other ≡ false → take (suc (common_front one other)) one ≡ take (suc (common_front one other)) other → ⊥)
        → (first && bytes_eq one other) ≡ false
        → take (suc (if first then 1 + common_front one other else 0)) (x ∷ one) ≡ take (suc (if first then 1 + common_front one other else 0)) (y ∷ other) → ⊥
    by true is later differ same =
        let one_more : 1 + common_front one other ≡ suc (common_front one other) = omega arith in
        let whole : take (suc (suc (common_front one other))) (x ∷ one) ≡ take (suc (suc (common_front one other))) (y ∷ other) =
        subst (λ n. take (suc n) (x ∷ one) ≡ take (suc n) (y ∷ other)) one_more same in
        let tails : take (suc (common_front one other)) one ≡ take (suc (common_front one other)) other = cc in
        later differ tails
    by false is later differ same =
        let heads : x ≡ y = cc in
        let equal : (x == y) ≡ true = (Decides-eqb x y).1 heads in
        cc

pub longer-not_same : (one other : List ℕ) (count : ℕ) → first_difference one other ≡ Some count → take (count + 1) one ≡ take (count + 1) other → ⊥
longer-not_same one other count found same =
    let found_at = differing one other count found in
    longer-differs one other found_at.0 (subst (λ n. take n one ≡ take n other) (let one_more : count + 1 ≡ suc (common_front one other) = omega arith in one_more) same)
