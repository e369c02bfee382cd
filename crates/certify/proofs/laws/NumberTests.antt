-- Tests of a number that says which of six tests is the first that fails.
use Rattle.std.proofs.Common.{◌≡◌, ℕ, ◌==◌, Bool, true, false, ◌&&◌, refl}
use Rattle.std.specs.Prelude.{not, nat_le, if◌then◌else◌}

-- the number: six tests one after the other, of which the last asks for `last` only where `any` does
abbrev pub number : Bool → Bool → Bool → Bool → Bool → Bool → Bool → ℕ
number first second third fourth fifth any last =
    if not first then 0
    else if not second then 1
    else if not third then 2
    else if not fourth then 3
    else if not fifth then 4
    else if any && not last then 5
    else 6

-- it is at least so much where one more test holds
pub at_least_1 : (a b c d e any f : Bool) → nat_le 1 (number a b c d e any f) ≡ a
at_least_1 false b c d e any f = refl
at_least_1 true false c d e any f = refl
at_least_1 true true false d e any f = refl
at_least_1 true true true false e any f = refl
at_least_1 true true true true false any f = refl
at_least_1 true true true true true false f = refl
at_least_1 true true true true true true false = refl
at_least_1 true true true true true true true = refl

pub at_least_2 : (a b c d e any f : Bool) → nat_le 2 (number a b c d e any f) ≡ (nat_le 1 (number a b c d e any f) && b)
at_least_2 false b c d e any f = refl
at_least_2 true false c d e any f = refl
at_least_2 true true false d e any f = refl
at_least_2 true true true false e any f = refl
at_least_2 true true true true false any f = refl
at_least_2 true true true true true false f = refl
at_least_2 true true true true true true false = refl
at_least_2 true true true true true true true = refl

pub at_least_3 : (a b c d e any f : Bool) → nat_le 3 (number a b c d e any f) ≡ (nat_le 2 (number a b c d e any f) && c)
at_least_3 false b c d e any f = refl
at_least_3 true false c d e any f = refl
at_least_3 true true false d e any f = refl
at_least_3 true true true false e any f = refl
at_least_3 true true true true false any f = refl
at_least_3 true true true true true false f = refl
at_least_3 true true true true true true false = refl
at_least_3 true true true true true true true = refl

pub at_least_4 : (a b c d e any f : Bool) → nat_le 4 (number a b c d e any f) ≡ (nat_le 3 (number a b c d e any f) && d)
at_least_4 false b c d e any f = refl
at_least_4 true false c d e any f = refl
at_least_4 true true false d e any f = refl
at_least_4 true true true false e any f = refl
at_least_4 true true true true false any f = refl
at_least_4 true true true true true false f = refl
at_least_4 true true true true true true false = refl
at_least_4 true true true true true true true = refl

pub at_least_5 : (a b c d e any f : Bool) → nat_le 5 (number a b c d e any f) ≡ (nat_le 4 (number a b c d e any f) && e)
at_least_5 false b c d e any f = refl
at_least_5 true false c d e any f = refl
at_least_5 true true false d e any f = refl
at_least_5 true true true false e any f = refl
at_least_5 true true true true false any f = refl
at_least_5 true true true true true false f = refl
at_least_5 true true true true true true false = refl
at_least_5 true true true true true true true = refl

-- the last test is asked for
pub at_least_6 : (a b c d e f : Bool) → nat_le 6 (number a b c d e true f) ≡ (nat_le 5 (number a b c d e true f) && f)
at_least_6 false b c d e f = refl
at_least_6 true false c d e f = refl
at_least_6 true true false d e f = refl
at_least_6 true true true false e f = refl
at_least_6 true true true true false f = refl
at_least_6 true true true true true false = refl
at_least_6 true true true true true true = refl

-- or it isn't
pub at_least_all : (a b c d e f : Bool) → nat_le 6 (number a b c d e false f) ≡ nat_le 5 (number a b c d e false f)
at_least_all false b c d e f = refl
at_least_all true false c d e f = refl
at_least_all true true false d e f = refl
at_least_all true true true false e f = refl
at_least_all true true true true false f = refl
at_least_all true true true true true f = refl

-- it is the greatest
pub is_greatest : (a b c d e any f : Bool) → (number a b c d e any f == 6) ≡ nat_le 6 (number a b c d e any f)
is_greatest false b c d e any f = refl
is_greatest true false c d e any f = refl
is_greatest true true false d e any f = refl
is_greatest true true true false e any f = refl
is_greatest true true true true false any f = refl
is_greatest true true true true true false f = refl
is_greatest true true true true true true false = refl
is_greatest true true true true true true true = refl
