-- None of the entries so far.
use Rattle.std.proofs.Common.{◌≡◌}
use Rattle.std.specs.List.{list_any}
use Rattle.subtree_spec.specs.Subtrees.{subtree_of}
use Rattle.subtree_spec.specs.membership.Membership.{holds_name}
use Rattle.dir_tree.specs.Scope.{scoped}
use Rattle.dir_tree.specs.declared.scope.Scope.TheVariants.{Sub}
use Rattle.data_advice.specs.Walking.{passes}
use Rattle.data_advice.proofs.subtrees.holds_from.Given as goal

abbrev pub invariant-loop-no : goal.invariant-loop-no
invariant-loop-no l =
    list_any (passes (λ entry. holds_name (subtree_of l.subtree) entry.name) l.tree) l.no-iterator
    ≡ list_any (passes (λ entry. holds_name (subtree_of l.subtree) entry.name) l.tree) (scoped Sub l.fn.suffix.0 l.tree)
