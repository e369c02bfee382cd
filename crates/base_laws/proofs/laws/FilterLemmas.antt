-- What filters leave, and what is found in it.
use Rattle.std.proofs.Common.{◌≡◌, ◌⊎◌, inl, inr, Bool, true, false, ◌&&◌, List, [], ◌∷◌, ◌++◌, Some, refl, ap, sym, ◌∙◌, append-nil, filter, find, reverse}
use Rattle.std.specs.List.{AllByRecursion}
use Rattle.std.proofs.lemmas.Bool.{cases_Bool}
use Rattle.std.proofs.lemmas.Grind.{reverse_onto}
use Rattle.std.proofs.lemmas.List.Elements.{filter-append}

-- two filters are one
pub filter-filter : {A : Type 0} (p q : A → Bool) (xs : List A) → filter p (filter q xs) ≡ filter (λ x. q x && p x) xs
filter-filter p q [] = refl
filter-filter p q (x ∷ xs) = elim (cases_Bool (q x)) [
  | inl e ↦ rw (e, filter-filter p q xs) refl
  | inr e ↦ rw e (filter-filter p q xs)
]

-- a filter finds in what another filter left all that it found, where that one took away nothing that passes
pub filter-filter_kept : {A : Type 0} (p q : A → Bool) (xs : List A) → AllByRecursion (λ x. q x ≡ false → p x ≡ false) xs → filter p (filter q xs) ≡ filter p xs
filter-filter_kept p q [] h = refl
filter-filter_kept p q (x ∷ xs) h = elim (cases_Bool (q x)) [
  | inl e ↦ rw (e, filter-filter_kept p q xs h.1) refl
  | inr e ↦ (let out = h.0 e in rw (e, out) (filter-filter_kept p q xs h.1))
]

-- a filter that nothing passes leaves nothing
pub filter-none : {A : Type 0} (p : A → Bool) (xs : List A) → AllByRecursion (λ x. p x ≡ false) xs → filter p xs ≡ []
filter-none p [] h = refl
filter-none p (x ∷ xs) h = rw h.0 (filter-none p xs h.1)

-- the elements that are left, last first
pub reverse-filter : {A : Type 0} (q : A → Bool) (xs : List A) → reverse (filter q xs) ≡ filter q (reverse xs)
reverse-filter q [] = refl
reverse-filter q (x ∷ xs) =
    by (cases_Bool (q x)) (reverse-filter q xs)
    ∙ sym (ap (filter q) (reverse_onto xs x []) ∙ filter-append q (reverse xs) (x ∷ []))
  where
    by : ((q x ≡ true) ⊎ (q x ≡ false)) → reverse (filter q xs) ≡ filter q (reverse xs)
        → reverse (filter q (x ∷ xs)) ≡ filter q (reverse xs) ++ filter q (x ∷ [])
    by (inl e) same = rw e (reverse_onto (filter q xs) x [] ∙ ap (λ front. front ++ x ∷ []) same)
    by (inr e) same = rw e (same ∙ sym (append-nil (filter q (reverse xs))))

-- what is found where nothing that passes was left out
pub find-filter : {A : Type 0} (p q : A → Bool) → ((x : A) → q x ≡ false → p x ≡ false) → (xs : List A) → find p (filter q xs) ≡ find p xs
find-filter p q h [] = refl
find-filter p q h (x ∷ xs) = elim (cases_Bool (q x)) [
  | inl e ↦ rw (e, find-filter p q h xs) refl
  | inr e ↦ (let out = h x e in rw (e, out) (find-filter p q h xs))
]

-- what is found passes
pub find-passes : {A : Type 0} (p : A → Bool) (xs : List A) (y : A) → find p xs ≡ Some y → p y ≡ true
find-passes p [] y e = absurd cc
find-passes p (x ∷ xs) y e = elim (cases_Bool (p x)) [
  | inl g ↦ (let is : Some x ≡ Some y = rw g at e in let same : x ≡ y = cc in ap p (sym same) ∙ g)
  | inr g ↦ find-passes p xs y (rw g at e)
]
