-- A list without the element at a place, looked at around another element.
use Rattle.std.proofs.Common.{◌≡◌, ◌≤◌, Bool, true, false, List, [], ◌∷◌, ◌++◌, ◌⊎◌, length, filter, if◌then◌else◌, refl, inl, inr, length-append, arith}

-- the element stands before the place
pub record StandsBefore {X : Type 0} (front back before after : List X) (x : X) : Type 0 where
  pub between : List X
  pub front_is : front ≡ before ++ x ∷ between
  pub after_is : after ≡ between ++ back

-- after the place
pub record StandsAfter {X : Type 0} (front back before after : List X) (x : X) : Type 0 where
  pub between : List X
  pub before_is : before ≡ front ++ between
  pub back_is : back ≡ between ++ x ∷ after

abbrev pub Stands : {X : Type 0} → List X → List X → List X → List X → X → Type 0
Stands front back before after x = StandsBefore front back before after x ⊎ StandsAfter front back before after x

-- the same with one more element in front
one_more :
    {X : Type 0} (first second : X) (front back before after : List X) (x : X) → first ≡ second
    → Stands front back before after x → Stands (first ∷ front) back (second ∷ before) after x
one_more first second front back before after x same stands =
    elim stands [
      | inl sooner ↦ inl (record { between = sooner.between; front_is = let e = sooner.front_is in cc; after_is = sooner.after_is })
      | inr later ↦ inr (record { between = later.between; before_is = let e = later.before_is in cc; back_is = later.back_is })
    ]

pub stands :
    {X : Type 0} (front back before after : List X) (x : X) → front ++ back ≡ before ++ x ∷ after
    → Stands front back before after x
stands [] back before after x is = inr (record { between = before; before_is = refl; back_is = is })
stands (first ∷ front) back [] after x is =
    inl (record { between = front; front_is = let same : first ≡ x = cc in cc; after_is = cc })
stands (first ∷ front) back (second ∷ before) after x is =
    let same : first ≡ second = cc in
    let rest : front ++ back ≡ before ++ x ∷ after = cc in
    one_more first second front back before after x same (stands front back before after x rest)

-- no more pass
pub filter-fewer :
    {X : Type 0} (test : X → Bool) (front back : List X) (x : X)
    → length (filter test (front ++ back)) ≤ length (filter test (front ++ x ∷ back))
filter-fewer test [] back x =
    elim (test x) as (λ b. length (filter test back) ≤ length (if b then x ∷ filter test back else filter test back)) [
      | true ↦ omega arith
      | false ↦ omega arith
    ]
filter-fewer test (first ∷ front) back x =
    let later = filter-fewer test front back x in
    elim (test first) as (λ b. length (if b then first ∷ filter test (front ++ back) else filter test (front ++ back))
    ≤ length (if b then first ∷ filter test (front ++ x ∷ back) else filter test (front ++ x ∷ back))) [
      | true ↦ omega arith
      | false ↦ later
    ]

-- nor are there more
pub length-fewer : {X : Type 0} (front back : List X) (x : X) → length (front ++ back) ≤ length (front ++ x ∷ back)
length-fewer front back x = omega (arith, length-append front (x ∷ back), length-append front back)
