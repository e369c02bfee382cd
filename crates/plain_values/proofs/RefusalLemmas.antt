-- Tables of refusals in which nothing refuses.
use Rattle.std.proofs.Common.{◌≡◌, Bool, true, false, List, ◌∷◌, Option, Some, None, refl}
use Rattle.plain_values.specs.Refusals.{when, first_some}

-- a table that refuses nothing has a first row that doesn't
pub none_of :
    {A : Type 0} (row : Option A) (rows : List (Option A)) → first_some (row ∷ rows) ≡ None
    → (row ≡ None) × (first_some rows ≡ None)
none_of None rows is = (refl, is)
none_of (Some refusal) rows is = absurd cc

pub none_from :
    {A : Type 0} (row : Option A) (rows : List (Option A)) → row ≡ None → first_some rows ≡ None
    → first_some (row ∷ rows) ≡ None
none_from None rows first later = later
none_from (Some refusal) rows first later = absurd cc

-- a row that refuses nothing does not apply
pub not_when : {A : Type 0} (applies : Bool) (refusal : A) → when applies refusal ≡ None → applies ≡ false
not_when true refusal is = absurd cc
not_when false refusal is = refl

pub when_not : {A : Type 0} (applies : Bool) (refusal : A) → applies ≡ false → when applies refusal ≡ None
when_not true refusal is = absurd cc
when_not false refusal is = refl
