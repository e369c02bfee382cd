-- None of the entries so far.
use Rattle.std.proofs.Common.{◌≡◌}
use Rattle.std.specs.List.{list_any}
use Rattle.dir_tree.specs.Points.{is_specific_point}
use Rattle.dir_tree.specs.Scope.{scoped}
use Rattle.dir_tree.specs.declared.scope.Scope.TheVariants.{Sub}
use Rattle.data_advice.specs.Walking.{passes}
use Rattle.data_advice.proofs.points.is_specific_from.Given as goal

abbrev pub invariant-loop-no : goal.invariant-loop-no
invariant-loop-no l =
    list_any (passes is_specific_point l.tree) l.no-iterator
    ≡ list_any (passes is_specific_point l.tree) (scoped Sub l.fn.suffix.0 l.tree)
