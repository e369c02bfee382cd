-- Which connections are on hold, and which are due.
use Rattle.std.proofs.Common.{◌≡◌, ◌≢◌, ◌==◌, ℕ, nat_eq, Bool, true, false, cond, not, List, [], ◌∷◌, filter, refl, ap, sym, ◌∙◌, subst, arith}
use Rattle.std.specs.List.{IsDistinct, AllByRecursion}
use Rattle.std.proofs.lemmas.Bool.Decides.{nat_tests}
use Rattle.session_model.specs.Keeping.{is_listed}
use Rattle.session_model.specs.Working.{Puts}

-- a list without a number
others_listed : (n c : ℕ) (xs : List ℕ) → n ≢ c → is_listed n (filter (λ d. not (c == d)) xs) ≡ is_listed n xs
others_listed n c [] differs = refl
others_listed n c (x ∷ xs) differs = grind (arith, nat_tests, others_listed n c xs)

none_listed : (c : ℕ) (xs : List ℕ) → is_listed c (filter (λ d. not (c == d)) xs) ≡ false
none_listed c [] = refl
none_listed c (x ∷ xs) = grind (arith, nat_tests, none_listed c xs)

pub puts_out : (c : ℕ) (xs ys : List ℕ) → ys ≡ filter (λ d. not (c == d)) xs → Puts c false xs ys
puts_out c xs ys is = record { own = ap (is_listed c) is ∙ none_listed c xs; others = λ d differs. ap (is_listed d) is ∙ others_listed d c xs differs }

-- a filter keeps numbers apart
apart_filter : (p : ℕ → Bool) (n : ℕ) (xs : List ℕ) → AllByRecursion (λ x. nat_eq n x ≡ false) xs → AllByRecursion (λ x. nat_eq n x ≡ false) (filter p xs)
apart_filter p n [] apart = tt
apart_filter p n (x ∷ xs) apart = by_test (p x) (apart_filter p n xs apart.1)
  where
    by_test : (b : Bool) → AllByRecursion (λ x. nat_eq n x ≡ false) (filter p xs) → AllByRecursion (λ x. nat_eq n x ≡ false) (cond b (x ∷ filter p xs) (filter p xs))
    by_test true rest = (apart.0, rest)
    by_test false rest = rest

pub distinct_filter : (p : ℕ → Bool) (xs : List ℕ) → IsDistinct nat_eq xs → IsDistinct nat_eq (filter p xs)
unfolding IsDistinct
distinct_filter p [] once = tt
distinct_filter p (x ∷ xs) once = by_test (p x) (apart_filter p x xs once.0) (distinct_filter p xs once.1)
  where
    by_test : (b : Bool) → AllByRecursion (λ y. nat_eq x y ≡ false) (filter p xs) → IsDistinct nat_eq (filter p xs) → IsDistinct nat_eq (cond b (x ∷ filter p xs) (filter p xs))
    by_test true apart rest = (apart, rest)
    by_test false apart rest = rest

pub distinct_none : (xs : List ℕ) → xs ≡ [] → IsDistinct nat_eq xs
unfolding IsDistinct
distinct_none xs none = subst (IsDistinct nat_eq) (sym none) tt
