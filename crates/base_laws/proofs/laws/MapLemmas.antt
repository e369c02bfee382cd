-- What is made of each element of a list, and the elements from a place on.
use Rattle.std.proofs.Common.{◌≡◌, inl, inr, ℕ, suc, ◌+◌, ◌<◌, Bool, ◌||◌, List, [], ◌∷◌, length, drop, get_or, refl, sym, ap, ◌∙◌, add-one, map, find, filter}
use Rattle.std.specs.List.{AllByRecursion, list_any}
use Rattle.std.specs.Option.{option_map}
use Rattle.std.proofs.Math.Seq.{drop-cons}
use Rattle.std.proofs.lemmas.Bool.{cases_Bool}

-- functions that agree on the elements of a list
pub map-agree : {A B : Type 0} (f g : A → B) (xs : List A) → AllByRecursion (λ x. f x ≡ g x) xs → map f xs ≡ map g xs
map-agree f g [] h = refl
map-agree f g (x ∷ xs) h = rw (h.0, map-agree f g xs h.1) refl

-- those of the things made that pass are made of those that pass so
pub filter-map : {A B : Type 0} (f : A → B) (p : B → Bool) (xs : List A) → map f (filter (λ x. p (f x)) xs) ≡ filter p (map f xs)
filter-map f p [] = refl
filter-map f p (x ∷ xs) = elim (cases_Bool (p (f x))) [
  | inl e ↦ rw (e, filter-map f p xs) refl
  | inr e ↦ rw e (filter-map f p xs)
]

-- what is found among things made is made of what is found among the things
pub find-map : {A B : Type 0} (f : A → B) (p : B → Bool) (xs : List A) → find p (map f xs) ≡ option_map f (find (λ x. p (f x)) xs)
find-map f p [] = refl
find-map f p (x ∷ xs) = elim (cases_Bool (p (f x))) [
  | inl e ↦ rw e refl
  | inr e ↦ rw e (find-map f p xs)
]

-- a test of what is made of each element
pub list_any-map : {A B : Type 0} (f : A → B) (p : B → Bool) (xs : List A) → list_any p (map f xs) ≡ list_any (λ x. p (f x)) xs
list_any-map f p [] = refl
list_any-map f p (x ∷ xs) = ap (λ b. p (f x) || b) (list_any-map f p xs)

-- the first of the elements that are left
pub next-item : {A : Type 0} (xs : List A) (index : ℕ) (x : A) → index < length xs → x ≡ get_or xs index x → drop index xs ≡ x ∷ drop (index + 1) xs
next-item xs index x within is = rw add-one (drop-cons xs index x within ∙ ap (λ first. first ∷ drop (suc index) xs) (sym is))
