-- Lists made of each element of a list, and the value that an answer has.
use Rattle.std.proofs.Common.{◌≡◌, List, [], ◌∷◌, ◌++◌, refl, ap, sym, ◌∙◌}
use Rattle.std.specs.Prelude.{flat_map, Result, Ok, Err, IfOk}
use Rattle.std.proofs.lemmas.List.{append_assoc}

-- functions that agree make the same of a list
pub flat_map-agree : {A B : Type 0} (f g : A → List B) → ((x : A) → f x ≡ g x) → (xs : List A) → flat_map f xs ≡ flat_map g xs
flat_map-agree f g h [] = refl
flat_map-agree f g h (x ∷ xs) = rw (h x, flat_map-agree f g h xs) refl

-- one fact of the value that an answer has, from another
pub ok_from : {T E : Type 0} (P Q : T → Type 0) → ((x : T) → P x → Q x) → (r : Result T E) → IfOk r P → IfOk r Q
ok_from P Q f (Ok x) h = f x h
ok_from P Q f (Err e) h = tt

-- what is made of the first of a list is put behind what was made before it
pub flat_map-step : {A B : Type 0} (f : A → List B) (old new : List B) (left rest : List A) (x : A) (all : List B) → left ≡ x ∷ rest → new ≡ old ++ f x → old ++ flat_map f left ≡ all → new ++ flat_map f rest ≡ all
flat_map-step f old new left rest x all e made h =
    ap (λ front. front ++ flat_map f rest) made ∙ append_assoc old (f x) (flat_map f rest) ∙ ap (λ xs. old ++ flat_map f xs) (sym e) ∙ h
