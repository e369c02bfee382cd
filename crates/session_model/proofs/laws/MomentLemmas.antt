-- The moments and the items of a journal, and of its steps, with one more.
use Rattle.std.proofs.Common.{◌≡◌, ◌≤◌, ◌+◌, List, [], ◌∷◌, ◌++◌, length, refl, ap, sym, ◌∙◌, arith, inl, inr, ◌⊎◌, subst, subst₂, length-append}
use Rattle.std.proofs.lemmas.List.{length-map}
use Rattle.wire_io.specs.declared.journal.Item.{Item}
use Rattle.session_model.specs.Run.{Step}
use Rattle.session_model.specs.Journaled.{steps_of, StepsOf, uncut, AtEachMoment, AtEachItem}
use Rattle.session_model.proofs.laws.JournalLemmas.{steps_of-append}

pub nothing_before : {A : Type 0} (f : List A) (x : A) (back : List A) → [] ≡ f ++ x ∷ back → ⊥
nothing_before [] x back h = cc
nothing_before (y ∷ f) x back h = cc

pub nothing_joined : {A : Type 0} (f back : List A) → [] ≡ f ++ back → f ≡ []
nothing_joined [] back h = refl
nothing_joined (y ∷ f) back h = cc

-- a front of a list that ends in one item more is all of it, or a front of the list without that item
front_of_more : {A : Type 0} (j : List A) (i : A) (front back : List A) → j ++ i ∷ [] ≡ front ++ back →
    (front ≡ j ++ i ∷ []) ⊎ ((rest : List A) × (j ≡ front ++ rest))
front_of_more j i [] back h = inr (j, refl)
front_of_more [] i (x ∷ front) back h =
    let empty : front ≡ [] = nothing_joined front back (cc) in inl (cc)
front_of_more (y ∷ j) i (x ∷ front) back h =
    elim (front_of_more j i front back (cc)) [ inl e ↦ inl (cc) | inr p ↦ inr (p.0, let e : j ≡ front ++ p.0 = p.1 in cc) ]

-- an item of such a list is the last, or stands in the list without it
item_of_more : {A : Type 0} (j : List A) (i : A) (front : List A) (x : A) (back : List A) → j ++ i ∷ [] ≡ front ++ x ∷ back →
    ((front ≡ j) × (x ≡ i)) ⊎ ((rest : List A) × (j ≡ front ++ x ∷ rest))
item_of_more [] i [] x back h = inl (refl, cc)
item_of_more [] i (y ∷ front) x back h = absurd (nothing_before front x back (cc))
item_of_more (y ∷ j) i [] x back h = inr (j, cc)
item_of_more (y ∷ j) i (z ∷ front) x back h =
    elim (item_of_more j i front x back (cc)) [ inl e ↦ inl (let e0 : front ≡ j = e.0 in cc, e.1) | inr p ↦ inr (p.0, let e : j ≡ front ++ x ∷ p.0 = p.1 in cc) ]

-- a front as long as the list is all of it, and one no longer than the first part is a front of that
all_of : {A : Type 0} (early late xs : List A) → xs ≡ early ++ late → length early ≡ length xs → early ≡ xs
all_of [] late [] h e = refl
all_of [] late (x ∷ xs) h e = absurd (omega arith)
all_of (y ∷ early) late [] h e = absurd (omega arith)
all_of (y ∷ early) late (x ∷ xs) h e = let rest : early ≡ xs = all_of early late xs (cc) (omega arith) in cc

front_of : {A : Type 0} (early late xs ys : List A) → xs ++ ys ≡ early ++ late → length early ≤ length xs → (rest : List A) × (xs ≡ early ++ rest)
front_of [] late xs ys h fits = (xs, refl)
front_of (y ∷ early) late [] ys h fits = absurd (omega arith)
front_of (y ∷ early) late (x ∷ xs) ys h fits =
    let rest = front_of early late xs ys (cc) (omega arith) in (rest.0, let e : xs ≡ early ++ rest.0 = rest.1 in cc)

-- as many steps as the journal has
pub steps_long : (j : List Item) (steps : List Step) → StepsOf j steps → length steps ≡ length (steps_of j)
steps_long j steps are = sym (length-map steps uncut) ∙ ap length are

-- a front of a journal has no more
steps_front : (front rest j : List Item) → j ≡ front ++ rest → length (steps_of front) ≤ length (steps_of j)
steps_front front rest j is =
    let long : length (steps_of j) ≡ length (steps_of front) + length (steps_of rest) = ap (λ x. length (steps_of x)) is ∙ ap length (steps_of-append front rest) ∙ length-append (steps_of front) (steps_of rest) in
    omega arith

pub AtEachMoment-more : (P : List Step → List Item → Type 0) (steps more : List Step) (j : List Item) (i : Item) → StepsOf j steps → StepsOf (j ++ i ∷ []) (steps ++ more) →
    AtEachMoment P steps j → P (steps ++ more) (j ++ i ∷ []) → AtEachMoment P (steps ++ more) (j ++ i ∷ [])
unfolding AtEachMoment
AtEachMoment-more P steps more j i are now_are each here early late front back es eb so =
    elim (front_of_more j i front back eb) [
      | inl e ↦
          let all : early ≡ steps ++ more = all_of early late (steps ++ more) es (steps_long front early so ∙ ap (λ x. length (steps_of x)) e ∙ sym (steps_long (j ++ i ∷ []) (steps ++ more) now_are)) in
          subst₂ P (sym all) (sym e) here
      | inr p ↦
          let fits : length early ≤ length steps =
          (let a = steps_long front early so in let b = steps_long j steps are in let d = steps_front front p.0 j p.1 in omega arith) in
          let within = front_of early late steps more es fits in
          each early within.0 front p.0 within.1 p.1 so
    ]

pub AtEachItem-more : (P : List Step → List Item → Item → Type 0) (steps more : List Step) (j : List Item) (i : Item) → StepsOf j steps →
    AtEachItem P steps j → P steps j i → AtEachItem P (steps ++ more) (j ++ i ∷ [])
unfolding AtEachItem
AtEachItem-more P steps more j i are each here early late front back x es eb so =
    elim (item_of_more j i front x back eb) [
      | inl e ↦
          let same : length early ≡ length steps = steps_long front early so ∙ ap (λ y. length (steps_of y)) e.0 ∙ sym (steps_long j steps are) in
          let within = front_of early late steps more es (omega arith) in
          let all : early ≡ steps = all_of early within.0 steps within.1 same in
          subst (λ y. P early front y) (sym e.1) (subst₂ (λ a b. P a b i) (sym all) (sym e.0) here)
      | inr p ↦
          let fits : length early ≤ length steps =
          (let a = steps_long front early so in let b = steps_long j steps are in let d = steps_front front (x ∷ p.0) j p.1 in omega arith) in
          let within = front_of early late steps more es fits in
          each early within.0 front p.0 x within.1 p.1 so
    ]
