use Rattle.std.proofs.Common.{◌≡◌, length}
use Rattle.client_core.specs.Faults.{taken_by}
use Rattle.client_core.proofs.checking.taken_by.Given as goal

-- the places before take no such line
abbrev pub invariant-loop-left : goal.invariant-loop-left
invariant-loop-left l = taken_by l.left l.kind ≡ taken_by l.slots l.kind

abbrev pub decreases-loop-left : goal.decreases-loop-left
decreases-loop-left l = length l.left
