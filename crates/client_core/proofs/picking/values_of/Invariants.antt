use Rattle.std.proofs.Common.{◌≡◌, take}
use Rattle.client_core.specs.Picks.{values_of}
use Rattle.client_core.proofs.picking.values_of.Given as goal

-- the values of the lines before
abbrev pub invariant-loop-line : goal.invariant-loop-line
invariant-loop-line l = l.values.items ≡ values_of l.kind (take l.line-index l.lines)
