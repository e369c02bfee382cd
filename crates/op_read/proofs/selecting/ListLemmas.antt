-- Lists of what is seen of other lists.
use Rattle.std.proofs.Common.{◌≡◌, inl, inr, ℕ, Bool, true, false, ◌&&◌, List, [], ◌∷◌, Option, Some, None, refl, ap, map, filter, find}
use Rattle.std.specs.Prelude.{flat_map}
use Rattle.std.specs.List.{filter_map}
use Rattle.std.specs.Option.{option_map_or}
use Rattle.std.proofs.lemmas.Bool.{cases_Bool}
use Rattle.op_read.specs.Seeing.{one_or_none}

-- the first of two tests, asked before
pub filter-two : {A B : Type 0} (f : A → B) (t : A → Bool) (u s : B → Bool) → ((x : A) → u (f x) ≡ t x) → (xs : List A) → filter (λ y. u y && s y) (map f xs) ≡ filter s (map f (filter t xs))
filter-two f t u s same [] = refl
filter-two f t u s same (x ∷ xs) = elim (cases_Bool (t x)) [
  | inl e ↦ elim (cases_Bool (s (f x))) [
    | inl g ↦ rw (same x, e, g) (ap (λ ys. f x ∷ ys) (filter-two f t u s same xs))
    | inr g ↦ rw (same x, e, g) (filter-two f t u s same xs)
  ]
  | inr e ↦ rw (same x, e) (filter-two f t u s same xs)
]

-- ---- one or none

pub kept-one : {A B : Type 0} (p : B → Bool) (f : A → B) (o : Option A) → option_map_or (λ x. p (f x)) o false ≡ true → filter p (one_or_none f o) ≡ one_or_none f o
kept-one p f None e = refl
kept-one p f (Some x) e = rw e refl

pub dropped-one : {A B : Type 0} (p : B → Bool) (f : A → B) (o : Option A) → option_map_or (λ x. p (f x)) o false ≡ false → filter p (one_or_none f o) ≡ []
dropped-one p f None e = refl
dropped-one p f (Some x) e = rw e refl

-- the items of numbers
pub among : {A B : Type 0} (find : ℕ → Option A) (f : A → B) (p : B → Bool) (ids : List ℕ) → flat_map (λ id. filter p (one_or_none f (find id))) ids ≡ filter p (map f (filter_map find ids))
among find f p [] = refl
among {A = A} {B = B} find f p (id ∷ ids) = by (find id) refl (among find f p ids)
  where
    by : (o : Option A) → find id ≡ o → flat_map (λ id. filter p (one_or_none f (find id))) ids ≡ filter p (map f (filter_map find ids)) → flat_map (λ id. filter p (one_or_none f (find id))) (id ∷ ids) ≡ filter p (map f (filter_map find (id ∷ ids)))
    by None e later = rw e later
    by (Some x) e later = rw e (elim (cases_Bool (p (f x))) [
      | inl g ↦ rw g (ap (λ ys. f x ∷ ys) later)
      | inr g ↦ rw g later
    ])
