-- Filters of a list, and of what is said of each of its elements.
use Rattle.std.proofs.Common.{◌≡◌, ℕ, suc, Bool, true, false, not, ◌&&◌, ◌||◌, List, [], ◌∷◌, length, map, filter, refl, sym, ap, ◌∙◌}
use Rattle.std.specs.Prelude.{nat_lt, if◌then◌else◌}
use Rattle.std.specs.List.{list_any, list_all}
use Rattle.std.proofs.lemmas.List.Elements.{filter_agree}
use Rattle.acdf_filters.specs.users.Choices.{highest, lowest, passing_or_all, is_filled}
use Rattle.explanation.specs.declared.facts.Facts.{Facts}
use Rattle.explanation.specs.Candidates.{staying, covering, permitted, foremost, most_specific, deciding}
use Rattle.dir_tree.proofs.base_laws_proofs.Theorems.{filter-map}

pub map-both : {A B C : Type 0} (f : A → B) (g : B → C) (xs : List A) → map (λ x. g (f x)) xs ≡ map g (map f xs)
map-both f g [] = refl
map-both f g (x ∷ xs) = ap (λ ys. g (f x) ∷ ys) (map-both f g xs)

-- lists of which the same is said are equally long
pub same_length : {A B C : Type 0} (f : A → C) (g : B → C) (xs : List A) (ys : List B) → map f xs ≡ map g ys → length xs ≡ length ys
same_length f g xs ys e = sym (counted f xs) ∙ ap length e ∙ counted g ys
  where
    counted : {X Y : Type 0} (h : X → Y) (zs : List X) → length (map h zs) ≡ length zs
    counted h [] = refl
    counted h (z ∷ zs) = ap suc (counted h zs)

any-mapped : {A B : Type 0} (f : A → B) (p : B → Bool) (xs : List A) → list_any (λ x. p (f x)) xs ≡ list_any p (map f xs)
any-mapped f p [] = refl
any-mapped f p (x ∷ xs) = ap (λ b. p (f x) || b) (any-mapped f p xs)

highest-mapped : {A B : Type 0} (f : A → B) (key : B → ℕ) (xs : List A) → map f (highest (λ x. key (f x)) xs) ≡ highest key (map f xs)
highest-mapped f key xs =
    filter-map f (λ y. not (list_any (λ z. nat_lt (key y) (key (f z))) xs)) xs
    ∙ filter_agree (λ y. not (list_any (λ z. nat_lt (key y) (key (f z))) xs)) (λ y. not (list_any (λ z. nat_lt (key y) (key z)) (map f xs)))
    (λ y. ap not (any-mapped f (λ z. nat_lt (key y) (key z)) xs)) (map f xs)

lowest-mapped : {A B : Type 0} (f : A → B) (key : B → ℕ) (xs : List A) → map f (lowest (λ x. key (f x)) xs) ≡ lowest key (map f xs)
lowest-mapped f key xs =
    filter-map f (λ y. not (list_any (λ z. nat_lt (key (f z)) (key y)) xs)) xs
    ∙ filter_agree (λ y. not (list_any (λ z. nat_lt (key (f z)) (key y)) xs)) (λ y. not (list_any (λ z. nat_lt (key z) (key y)) (map f xs)))
    (λ y. ap not (any-mapped f (λ z. nat_lt (key z) (key y)) xs)) (map f xs)

passing-mapped : {A B : Type 0} (f : A → B) (p : B → Bool) (xs : List A) → map f (passing_or_all (λ x. p (f x)) xs) ≡ passing_or_all p (map f xs)
passing-mapped f p xs =
    both (list_any (λ x. p (f x)) xs)
    ∙ ap (λ b. if b then filter p (map f xs) else map f xs) (any-mapped f p xs)
  where
    both : (b : Bool) → map f (if b then filter (λ x. p (f x)) xs else xs) ≡ (if b then filter p (map f xs) else map f xs)
    both true = filter-map f p xs
    both false = refl

-- each filter by facts
pub staying-mapped : {A B : Type 0} (f : A → B) (facts : B → Facts) (xs : List A) → map f (staying (λ x. facts (f x)) xs) ≡ staying facts (map f xs)
staying-mapped f facts xs = filter-map f (λ y. (facts y).stays) xs

pub covering-mapped : {A B : Type 0} (f : A → B) (facts : B → Facts) (xs : List A) → map f (covering (λ x. facts (f x)) xs) ≡ covering facts (map f xs)
covering-mapped f facts xs =
    filter-map f (λ y. (facts y).covers) (staying (λ x. facts (f x)) xs)
    ∙ ap (filter (λ y. (facts y).covers)) (staying-mapped f facts xs)

pub permitted-mapped : {A B : Type 0} (f : A → B) (facts : B → Facts) (xs : List A) → map f (permitted (λ x. facts (f x)) xs) ≡ permitted facts (map f xs)
permitted-mapped f facts xs =
    filter-map f (λ y. (facts y).permitted) (covering (λ x. facts (f x)) xs)
    ∙ ap (filter (λ y. (facts y).permitted)) (covering-mapped f facts xs)

pub foremost-mapped : {A B : Type 0} (f : A → B) (facts : B → Facts) (xs : List A) → map f (foremost (λ x. facts (f x)) xs) ≡ foremost facts (map f xs)
foremost-mapped f facts xs =
    highest-mapped f (λ y. (facts y).precedence) (permitted (λ x. facts (f x)) xs)
    ∙ ap (highest (λ y. (facts y).precedence)) (permitted-mapped f facts xs)

pub most_specific-mapped : {A B : Type 0} (f : A → B) (facts : B → Facts) (xs : List A) → map f (most_specific (λ x. facts (f x)) xs) ≡ most_specific facts (map f xs)
most_specific-mapped f facts xs =
    lowest-mapped f (λ y. (facts y).rank) (foremost (λ x. facts (f x)) xs)
    ∙ ap (lowest (λ y. (facts y).rank)) (foremost-mapped f facts xs)

pub deciding-mapped : {A B : Type 0} (f : A → B) (facts : B → Facts) (xs : List A) → map f (deciding (λ x. facts (f x)) xs) ≡ deciding facts (map f xs)
deciding-mapped f facts xs =
    passing-mapped f (λ y. (facts y).explicit) (most_specific (λ x. facts (f x)) xs)
    ∙ ap (passing_or_all (λ y. (facts y).explicit)) (most_specific-mapped f facts xs)

all-mapped : {A B : Type 0} (f : A → B) (g : B → Bool) (xs : List A) → list_all g (map f xs) ≡ list_all (λ x. g (f x)) xs
all-mapped f g [] = refl
all-mapped f g (x ∷ xs) = ap (λ b. g (f x) && b) (all-mapped f g xs)

-- all of some grant
pub granting-mapped : {A B : Type 0} (f : A → B) (g : B → Bool) (xs : List A) → (is_filled (map f xs) && list_all g (map f xs)) ≡ (is_filled xs && list_all (λ x. g (f x)) xs)
granting-mapped f g [] = refl
granting-mapped f g (x ∷ xs) = ap (λ b. g (f x) && b) (all-mapped f g xs)
