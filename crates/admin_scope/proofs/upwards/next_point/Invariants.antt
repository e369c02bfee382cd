-- The fronts that were passed over name no point.
use Rattle.std.proofs.Common.{◌≡◌}
use Rattle.admin_scope.specs.Walking.{points_up}
use Rattle.admin_scope.proofs.upwards.next_point.Given as goal

abbrev pub invariant-loop-len : goal.invariant-loop-len
invariant-loop-len l = points_up l.len l.name l.tree ≡ points_up l.fn.len l.name l.tree

abbrev pub decreases-loop-len : goal.decreases-loop-len
decreases-loop-len l = l.len
