-- What is kept of a peer's octets behind a cut, and how it changes.
use Rattle.std.specs.Prelude.{ℕ, List, take, drop}
use Rattle.fair_pieces.specs.declared.cuts.Cut.{Cut}
use Rattle.fair_pieces.specs.Cuts.{cut_at}

-- the octets that came and weren't given, and how many are still to come of a message that was given in part
pub record KeptState : Type 0 where
  pub octets : List ℕ
  pub left : ℕ

-- of these octets, which came and are all that there is, the front is given up to the cut, and the rest is kept
abbrev pub behind_cut : ℕ → List ℕ → KeptState
behind_cut left octets = record { octets = drop (cut_at left octets).given octets; left = (cut_at left octets).left }

-- the cut of as many of the kept octets as there is room for
abbrev pub seen_cut : KeptState → ℕ → Cut
seen_cut kept room = cut_at kept.left (take room kept.octets)
