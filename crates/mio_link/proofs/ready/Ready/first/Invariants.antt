use Rattle.std.proofs.Common.{◌≡◌, ℕ, ◌*◌, ◌<◌, ◌≤◌, false}
use Rattle.mio_link.specs.Places.{has}
use Rattle.mio_link.proofs.ready.Ready.first.Given as goal

-- none of the places up to the word is in the set
abbrev pub invariant-loop-index : goal.invariant-loop-index
invariant-loop-index l = (other : ℕ) → l.from ≤ other → other < l.index * 64 → has l.self other ≡ false
