-- The fronts that were passed over name no specific point.
use Rattle.std.proofs.Common.{◌≡◌}
use Rattle.admin_scope.specs.Walking.{has_specific}
use Rattle.admin_scope.proofs.upwards.has_specific.Given as goal

abbrev pub invariant-loop-len : goal.invariant-loop-len
invariant-loop-len l = has_specific l.len l.name l.tree ≡ has_specific l.initial.len l.name l.tree

abbrev pub decreases-loop-len : goal.decreases-loop-len
decreases-loop-len l = l.len
