-- What is found in a list, seen among the rows that are made of it.
use Rattle.std.proofs.Common.{◌≡◌, inl, inr, Bool, true, List, [], ◌∷◌, Some, refl, ap, ◌∙◌, map, find}
use Rattle.std.specs.List.{list_any}
use Rattle.std.proofs.lemmas.Bool.{cases_Bool}

-- what is found is one of the list: where its row passes a test, a row does
pub any-found : {A B : Type 0} (p : A → Bool) (f : A → B) (q : B → Bool) (y : A) → q (f y) ≡ true → (xs : List A)
    → find p xs ≡ Some y → list_any q (map f xs) ≡ true
any-found p f q y passes [] e = absurd cc
any-found p f q y passes (x ∷ xs) e = elim (cases_Bool (q (f x))) [
  | inl g ↦ rw g refl
  | inr g ↦ elim (cases_Bool (p x)) [
    | inl h ↦ (let is : Some x ≡ Some y = rw h at e in let same : x ≡ y = cc in rw (ap (λ z. q (f z)) same ∙ passes) refl)
    | inr h ↦ rw (g, any-found p f q y passes xs (rw h at e)) refl
  ]
]
