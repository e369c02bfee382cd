-- Lists: what tests find in them, and what is left where elements are left out.
use Rattle.std.proofs.Common.{◌≡◌, inl, inr, Bool, true, false, ◌&&◌, List, [], ◌∷◌, refl, filter, find}
use Rattle.std.specs.List.{AllByRecursion, list_any}
use Rattle.std.proofs.lemmas.Bool.{cases_Bool, or_parts}
use Rattle.dir_tree.proofs.base_laws_proofs.Theorems.{all_map, none_passes, list_any-none}

-- a test that none passes, from one that none passes
pub list_any-from : {A : Type 0} (p q : A → Bool) → ((x : A) → p x ≡ false → q x ≡ false) → (xs : List A)
    → list_any p xs ≡ false → list_any q xs ≡ false
list_any-from p q f xs e = list_any-none q xs (all_map (λ x. p x ≡ false) (λ x. q x ≡ false) f xs (none_passes p xs e))

pub list_any-left : {A : Type 0} (p q : A → Bool) (xs : List A) → AllByRecursion (λ x. q x ≡ false → p x ≡ false) xs
    → list_any p (filter q xs) ≡ list_any p xs
list_any-left p q [] h = refl
list_any-left p q (x ∷ xs) h = elim (cases_Bool (q x)) [
  | inl e ↦ rw (e, list_any-left p q xs h.1) refl
  | inr e ↦ (let out = h.0 e in rw (e, out) (list_any-left p q xs h.1))
]

pub find-left : {A : Type 0} (p q : A → Bool) (xs : List A) → AllByRecursion (λ x. q x ≡ false → p x ≡ false) xs
    → find p (filter q xs) ≡ find p xs
find-left p q [] h = refl
find-left p q (x ∷ xs) h = elim (cases_Bool (q x)) [
  | inl e ↦ rw (e, find-left p q xs h.1) refl
  | inr e ↦ (let out = h.0 e in rw (e, out) (find-left p q xs h.1))
]

-- each element that is left passes the filter, and fails a test that none passes that does
pub all_left : {A : Type 0} (q g : A → Bool) (xs : List A) → list_any (λ x. q x && g x) xs ≡ false
    → AllByRecursion (λ x. (q x ≡ true) × (g x ≡ false)) (filter q xs)
all_left q g [] h = tt
all_left q g (x ∷ xs) h =
    let parts = or_parts (q x && g x) (list_any (λ x. q x && g x) xs) h in
    elim (cases_Bool (q x)) [
      | inl e ↦ rw e ((e, second (q x) (g x) e parts.0), all_left q g xs parts.1)
      | inr e ↦ rw e (all_left q g xs parts.1)
    ]
  where
    second : (a b : Bool) → a ≡ true → (a && b) ≡ false → b ≡ false
    second true b e f = f
    second false b e f = absurd cc
