-- Those so far, and those of the entries that are left.
use Rattle.std.proofs.Common.{◌≡◌}
use Rattle.std.specs.Prelude.{◌+◌, length, filter}
use Rattle.dir_tree.specs.tree.Numbered.{entries_of}
use Rattle.data_advice.specs.Advice.{is_outside}
use Rattle.dir_tree.specs.Scope.{scoped}
use Rattle.dir_tree.specs.declared.scope.Scope.TheVariants.{Sub}
use Rattle.data_advice.specs.Walking.{passes}
use Rattle.data_advice.proofs.points.count_outside.Given as goal

abbrev pub invariant-loop-no : goal.invariant-loop-no
invariant-loop-no l =
    l.count + length (filter (passes (is_outside (entries_of l.tree)) l.tree) l.no-iterator)
    ≡ length (filter (passes (is_outside (entries_of l.tree)) l.tree) (scoped Sub l.fn.suffix.0 l.tree))
