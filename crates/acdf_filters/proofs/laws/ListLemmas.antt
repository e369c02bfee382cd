-- Lists, and tests of their elements.
use Rattle.std.proofs.Common.{◌≡◌, Bool, List, [], ◌∷◌, filter, refl}
use Rattle.std.specs.Prelude.{flat_map}
use Rattle.std.specs.List.{AllByRecursion, list_any}
use Rattle.dir_tree.proofs.base_laws_proofs.Theorems.{all_append}

-- what many lists have
pub all_flat_map : {A B : Type 0} (P : B → Type 0) (f : A → List B) → ((x : A) → AllByRecursion P (f x)) → (xs : List A) → AllByRecursion P (flat_map f xs)
all_flat_map P f h [] = tt
all_flat_map P f h (x ∷ xs) = all_append P (f x) (flat_map f xs) (h x) (all_flat_map P f h xs)

pub all_flat_map_of : {A B : Type 0} (P : B → Type 0) (f : A → List B) (xs : List A) → AllByRecursion (λ x. AllByRecursion P (f x)) xs → AllByRecursion P (flat_map f xs)
all_flat_map_of P f [] h = tt
all_flat_map_of P f (x ∷ xs) h = all_append P (f x) (flat_map f xs) h.0 (all_flat_map_of P f xs h.1)

-- tests that agree on the elements of a list
pub list_any-agree : {A : Type 0} (p q : A → Bool) (xs : List A) → AllByRecursion (λ x. p x ≡ q x) xs → list_any p xs ≡ list_any q xs
list_any-agree p q [] h = refl
list_any-agree p q (x ∷ xs) h = rw (h.0, list_any-agree p q xs h.1) refl

pub filter-agree : {A : Type 0} (p q : A → Bool) (xs : List A) → AllByRecursion (λ x. p x ≡ q x) xs → filter p xs ≡ filter q xs
filter-agree p q [] h = refl
filter-agree p q (x ∷ xs) h = rw (h.0, filter-agree p q xs h.1) refl
