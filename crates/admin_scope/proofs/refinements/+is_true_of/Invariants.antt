-- The members so far decide nothing.
use Rattle.std.proofs.Common.{◌≡◌, drop, map}
use Rattle.subtree_spec.specs.Subtrees.{choice_of, gathered}
use Rattle.admin_scope.specs.Refinements.{all_true_of, some_true_of}
use Rattle.admin_scope.proofs.refinements.+is_true_of.Given as goal

abbrev pub invariant-loop-needed : goal.invariant-loop-needed
invariant-loop-needed l =
    all_true_of (gathered (map choice_of (drop l.needed-index l.needed-items))) l.entry
    ≡ all_true_of (gathered (map choice_of l.needed-items)) l.entry

abbrev pub invariant-loop-enough : goal.invariant-loop-enough
invariant-loop-enough l =
    some_true_of (gathered (map choice_of (drop l.enough-index l.enough-items))) l.entry
    ≡ some_true_of (gathered (map choice_of l.enough-items)) l.entry
