-- None of the entries so far.
use Rattle.std.proofs.Common.{◌≡◌}
use Rattle.std.specs.List.{list_any}
use Rattle.dir_tree.specs.Scope.{scoped}
use Rattle.dir_tree.specs.declared.scope.Scope.TheVariants.{One}
use Rattle.schema_rules.specs.Beside.{is_wrong_below}
use Rattle.schema_rules.proofs.points.finds_wrong_below.Given as goal

abbrev pub invariant-loop-other : goal.invariant-loop-other
invariant-loop-other l =
    list_any (is_wrong_below l.entry l.tree) l.other-iterator
    ≡ list_any (is_wrong_below l.entry l.tree) (scoped One l.fn.no.0 l.tree)
