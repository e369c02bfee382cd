-- Lists of lists, and lists by the numbers of what is in them.
use Rattle.std.proofs.Common.{◌≡◌, ℕ, inl, inr, Bool, List, [], ◌∷◌, ◌++◌, Option, Some, None, filter, map, refl, ap, ◌∙◌}
use Rattle.std.specs.Prelude.{flat_map, if◌then◌else◌}
use Rattle.std.specs.Option.{option_map_or}
use Rattle.std.specs.List.{filter_map}
use Rattle.std.proofs.lemmas.Bool.{cases_Bool}
use Rattle.std.proofs.lemmas.Grind.{flat_map-append}
use Rattle.std.proofs.lemmas.List.{map-append}

-- tests that agree leave the same
pub filter-agree : {A : Type 0} (p q : A → Bool) → ((x : A) → p x ≡ q x) → (xs : List A) → filter p xs ≡ filter q xs
filter-agree p q h [] = refl
filter-agree p q h (x ∷ xs) = rw (h x, filter-agree p q h xs) refl

-- what is said of those of the numbers that are in use
pub flat_map-at : {E B : Type 0} (find : ℕ → Option E) (f : E → List B) (ids : List ℕ)
    → flat_map (λ id. option_map_or f (find id) []) ids ≡ flat_map f (filter_map find ids)
flat_map-at find f [] = refl
flat_map-at {E = E} {B = B} find f (id ∷ ids) = by (find id) refl (flat_map-at find f ids)
  where
    by : (found : Option E) → find id ≡ found → flat_map (λ id. option_map_or f (find id) []) ids ≡ flat_map f (filter_map find ids)
        → flat_map (λ id. option_map_or f (find id) []) (id ∷ ids) ≡ flat_map f (filter_map find (id ∷ ids))
    by None e later = rw e later
    by (Some x) e later = rw e (ap (λ (ys : List B). f x ++ ys) later)

-- of each that passes, one thing
pub flat_map-where : {A B : Type 0} (test : A → Bool) (f : A → B) (xs : List A)
    → flat_map (λ x. if test x then f x ∷ [] else []) xs ≡ map f (filter test xs)
flat_map-where test f [] = refl
flat_map-where test f (x ∷ xs) = elim (cases_Bool (test x)) [
  | inl e ↦ rw e (ap (λ ys. f x ∷ ys) (flat_map-where test f xs))
  | inr e ↦ rw e (flat_map-where test f xs)
]

pub map-both : {A B C : Type 0} (f : A → B) (g : B → C) (xs : List A) → map g (map f xs) ≡ map (λ x. g (f x)) xs
map-both f g [] = refl
map-both f g (x ∷ xs) = ap (λ ys. g (f x) ∷ ys) (map-both f g xs)

pub map-itself : {A : Type 0} (xs : List A) → map (λ x. x) xs ≡ xs
map-itself [] = refl
map-itself (x ∷ xs) = ap (λ ys. x ∷ ys) (map-itself xs)

pub flat_map-agree : {A B : Type 0} (f g : A → List B) → ((x : A) → f x ≡ g x) → (xs : List A) → flat_map f xs ≡ flat_map g xs
flat_map-agree f g h [] = refl
flat_map-agree f g h (x ∷ xs) = rw (h x, flat_map-agree f g h xs) refl

-- a map of many lists
pub map-flat_map : {A B C : Type 0} (g : B → C) (f : A → List B) (xs : List A) → map g (flat_map f xs) ≡ flat_map (λ x. map g (f x)) xs
map-flat_map g f [] = refl
map-flat_map g f (x ∷ xs) = map-append g (f x) (flat_map f xs) ∙ ap (λ ys. map g (f x) ++ ys) (map-flat_map g f xs)

-- many of many
pub flat_map-both : {A B C : Type 0} (g : B → List C) (f : A → List B) (xs : List A)
    → flat_map g (flat_map f xs) ≡ flat_map (λ x. flat_map g (f x)) xs
flat_map-both g f [] = refl
flat_map-both g f (x ∷ xs) = flat_map-append g (f x) (flat_map f xs) ∙ ap (λ ys. flat_map g (f x) ++ ys) (flat_map-both g f xs)
