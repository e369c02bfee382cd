-- A count of faults, lists of numbers, and tables of refusals, on known cases.
use Rattle.std.proofs.Common.{◌≡◌, ℕ, refl, inl, inr, arith, true, false, [], ◌∷◌, Some, None}
use Rattle.plain_values.specs.Counts.{Rose, NeverFalls, last_count, next_count}
use Rattle.plain_values.specs.Numbers.{has}
use Rattle.plain_values.specs.Refusals.{when, first_some}

-- from 3 to 4 it rose
three_to_four : Rose 3 4
three_to_four = record { never_falls = omega arith; rose = inl (omega arith) }

-- at its last value it is taken to have risen
stays_at_the_last : Rose last_count last_count
stays_at_the_last = record { never_falls = omega arith; rose = inr (omega arith) }

-- a count that stays below its last value did not rise
three_to_three : Rose 3 3 → ⊥
three_to_three rise = omega arith

-- and one that fell did neither
four_to_three : NeverFalls 4 3 → ⊥
four_to_three never = omega arith

next_of_three : next_count 3 ≡ 4
next_of_three = refl

next_of_the_last : next_count last_count ≡ last_count
next_of_the_last = refl

-- a number that is among others, and one that isn't
seven_is_among : has 7 (3 ∷ 7 ∷ []) ≡ true
seven_is_among = refl

five_is_not : has 5 (3 ∷ 7 ∷ []) ≡ false
five_is_not = refl

-- the first row that applies decides
the_first_row : first_some {A = ℕ} (when false 1 ∷ when true 2 ∷ when true 3 ∷ []) ≡ Some 2
the_first_row = refl

no_row : first_some {A = ℕ} (when false 1 ∷ when false 2 ∷ []) ≡ None
no_row = refl
