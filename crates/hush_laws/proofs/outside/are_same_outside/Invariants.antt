-- The entries outside so far are the same, so those that are left decide.
use Rattle.std.proofs.Common.{◌≡◌, length}
use Rattle.dir_tree.specs.tree.Numbered.{entries_of}
use Rattle.op_read.specs.acdf_filters.admin_scope.Areas.{without_subtree}
use Rattle.hush_laws.specs.Equality.{are_all_equal}
use Rattle.hush_laws.proofs.outside.are_same_outside.Given as goal

abbrev pub invariant-loop-entry : goal.invariant-loop-entry
invariant-loop-entry l =
    are_all_equal (without_subtree l.top l.ones) (without_subtree l.top l.others)
    ≡ are_all_equal (without_subtree l.top (entries_of l.one)) (without_subtree l.top (entries_of l.other))

abbrev pub decreases-loop-entry : goal.decreases-loop-entry
decreases-loop-entry l = length (without_subtree l.top l.ones)
