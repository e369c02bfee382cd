-- What was passed over is at or below the name.
use Rattle.std.proofs.Common.{◌≡◌}
use Rattle.op_read.specs.acdf_filters.admin_scope.Areas.{without_subtree}
use Rattle.hush_laws.proofs.outside.next_outside.Given as goal

abbrev pub invariant-loop-entry : goal.invariant-loop-entry
invariant-loop-entry l = record {
  next : (goal.iterator-loop-entry).can_next l.rows;
  finite : (goal.iterator-loop-entry).is_finite l.rows;
  left : without_subtree l.top l.rows ≡ without_subtree l.top l.fn.rows;
}
