-- A list with an element put in at a place, looked at around another element.
use Rattle.std.proofs.Common.{◌≡◌, ◌+◌, Bool, true, false, cond, List, [], ◌∷◌, ◌++◌, ◌⊎◌, length, filter, find, if◌then◌else◌, Some, None, refl, inl, inr, length-append, arith}
use Rattle.std.specs.List.{AllByRecursion}

-- the other element stands before the place
pub record StandsBefore {X : Type 0} (front back before after : List X) (new other : X) : Type 0 where
  pub between : List X
  pub front_is : front ≡ before ++ other ∷ between
  pub after_is : after ≡ between ++ new ∷ back

-- at the place
pub record StandsHere {X : Type 0} (front back before after : List X) (new other : X) : Type 0 where
  pub before_is : before ≡ front
  pub after_is : after ≡ back
  pub is : new ≡ other

-- after the place
pub record StandsAfter {X : Type 0} (front back before after : List X) (new other : X) : Type 0 where
  pub between : List X
  pub before_is : before ≡ front ++ new ∷ between
  pub back_is : back ≡ between ++ other ∷ after

abbrev pub Stands : {X : Type 0} → List X → List X → List X → List X → X → X → Type 0
Stands front back before after new other =
    StandsHere front back before after new other
    ⊎ (StandsBefore front back before after new other ⊎ StandsAfter front back before after new other)

-- the same with one more element in front
one_more :
    {X : Type 0} (first second : X) (front back before after : List X) (new other : X) → first ≡ second
    → Stands front back before after new other → Stands (first ∷ front) back (second ∷ before) after new other
one_more first second front back before after new other same stands =
    elim stands [
      | inl here ↦ inl (record { before_is = let e = here.before_is in cc; after_is = here.after_is; is = here.is })
      | inr apart ↦ inr (elim apart [
        | inl sooner ↦ inl (record { between = sooner.between; front_is = let e = sooner.front_is in cc; after_is = sooner.after_is })
        | inr later ↦ inr (record { between = later.between; before_is = let e = later.before_is in cc; back_is = later.back_is })
      ])
    ]

pub stands :
    {X : Type 0} (front back before after : List X) (new other : X) → front ++ new ∷ back ≡ before ++ other ∷ after
    → Stands front back before after new other
stands [] back [] after new other is = inl (record { before_is = refl; after_is = cc; is = cc })
stands [] back (second ∷ before) after new other is =
    inr (inr (record { between = before; before_is = let same : new ≡ second = cc in cc; back_is = cc }))
stands (first ∷ front) back [] after new other is =
    inr (inl (record { between = front; front_is = let same : first ≡ other = cc in cc; after_is = cc }))
stands (first ∷ front) back (second ∷ before) after new other is =
    let same : first ≡ second = cc in
    let rest : front ++ new ∷ back ≡ before ++ other ∷ after = cc in
    one_more first second front back before after new other same (stands front back before after new other rest)

-- what holds of all
pub all_at :
    {X : Type 0} (P : X → Type 0) (front back : List X) (x : X) → AllByRecursion P (front ++ x ∷ back) → P x
all_at P [] back x all = all.0
all_at P (first ∷ front) back x all = all_at P front back x all.1

-- an element that does not pass is passed over
pub find-past :
    {X : Type 0} (test : X → Bool) (front back : List X) (x : X) → test x ≡ false
    → find test (front ++ x ∷ back) ≡ find test (front ++ back)
find-past test [] back x fails = rw fails refl
find-past test (first ∷ front) back x fails =
    elim (test first) as (λ b. (if b then Some first else find test (front ++ x ∷ back)) ≡ (if b then Some first else find test (front ++ back))) [
      | true ↦ refl
      | false ↦ find-past test front back x fails
    ]

-- how many pass
pub filter-past :
    {X : Type 0} (test : X → Bool) (front back : List X) (x : X)
    → length (filter test (front ++ x ∷ back)) ≡ length (filter test (front ++ back)) + cond (test x) 1 0
filter-past test [] back x =
    elim (test x) as (λ b. length (if b then x ∷ filter test back else filter test back) ≡ length (filter test back) + cond b 1 0) [
      | true ↦ omega arith
      | false ↦ omega arith
    ]
filter-past test (first ∷ front) back x =
    let later = filter-past test front back x in
    elim (test first) as (λ b. length (if b then first ∷ filter test (front ++ x ∷ back) else filter test (front ++ x ∷ back))
    ≡ length (if b then first ∷ filter test (front ++ back) else filter test (front ++ back)) + cond (test x) 1 0) [
      | true ↦ omega arith
      | false ↦ later
    ]

pub length-past :
    {X : Type 0} (front back : List X) (x : X) → length (front ++ x ∷ back) ≡ length (front ++ back) + 1
length-past front back x = omega (arith, length-append front (x ∷ back), length-append front back)

-- none passes where nothing is found
pub none_found :
    {X : Type 0} (test : X → Bool) (xs : List X) → find test xs ≡ None → AllByRecursion (λ x. test x ≡ false) xs
none_found test [] none = tt
none_found test (x ∷ xs) none =
    (elim (test x) as (λ b. (if b then Some x else find test xs) ≡ None → (b ≡ false) × AllByRecursion (λ x. test x ≡ false) xs) [
      | true ↦ λ here. absurd cc
      | false ↦ λ later. (refl, none_found test xs later)
    ]) none

pub nothing_found :
    {X : Type 0} (test : X → Bool) (xs : List X) → AllByRecursion (λ x. test x ≡ false) xs → find test xs ≡ None
nothing_found test [] none = refl
nothing_found test (x ∷ xs) none = rw none.0 (nothing_found test xs none.1)
