use Rattle.std.proofs.Common.{◌≡◌, drop}
use Rattle.client_core.specs.Faults.{first_bad}
use Rattle.client_core.proofs.checking.first_bad.Given as goal

-- the first line that is at fault is one of those that are left, at the places that are left
abbrev pub invariant-loop-line : goal.invariant-loop-line
invariant-loop-line l = first_bad l.row l.lines ≡ first_bad l.slots (drop l.line-index l.lines)
