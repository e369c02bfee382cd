-- Turns of places on known cases.
use Rattle.std.proofs.Common.{◌≡◌, inl, inr, ℕ, Bool, false, ◌==◌, ◌||◌, [], ◌∷◌, None, refl, arith}
use Rattle.std.proofs.lemmas.Bool.Decides.{nat_tests}
use Rattle.mio_link.specs.Turns.{AreOut, IsFirst, HaveTurns, Gives}

-- the places 0 and 2
abbrev pub pair : ℕ → Bool
pair place = place == 0 || place == 2

nothing_at_one : (other : ℕ) → other ≡ 1 → pair other ≡ false
nothing_at_one other is = rw is refl

-- none is behind 2
none_behind : AreOut pair 3
none_behind other reached = grind (arith, nat_tests)

-- from 1 on the first is 2, and from 0 on it is 0
first_behind : IsFirst pair 1 2
first_behind = record { within = refl; reached = omega arith; first = λ other from before. nothing_at_one other (omega arith) }

first_of_all : IsFirst pair 0 0
first_of_all = record { within = refl; reached = omega arith; first = λ other from before. absurd (omega arith) }

-- from 1 on the turns are those of 2, then of 0, and then of 2 again
pub turns_go_around : HaveTurns 1 (pair ∷ pair ∷ pair ∷ []) (2 ∷ 0 ∷ 2 ∷ [])
turns_go_around = (inl first_behind, (inr (none_behind, first_of_all), (inl first_behind, tt)))

-- of no place it is nobody's turn
pub nobody_has_a_turn : Gives (λ place. false) 5 None
nobody_has_a_turn other reached = refl
