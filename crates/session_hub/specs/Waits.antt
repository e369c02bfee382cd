-- Which connections of a loop are on hold, and which are still due in a block, for the loop's own functions alone.
use Rattle.std.specs.Prelude.{◌≡◌, ◌<◌, ℕ, List, [], ◌∷◌, length, Option, Some, None}
use Rattle.session_model.specs.Working.{Covers}

-- the first of those that are due is taken, if there is any
abbrev pub TakesDue : Option ℕ → List ℕ → List ℕ → Type 0
TakesDue None old new = (old ≡ []) × (new ≡ [])
TakesDue (Some number) old new = Covers (number ∷ new) old × (length new < length old)
