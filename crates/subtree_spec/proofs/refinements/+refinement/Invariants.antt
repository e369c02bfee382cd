-- The refinements so far, and those that are left, are those of the set; each call has less depth, or is nearer to it.
use Rattle.std.proofs.Common.{◌≡◌, ◌+◌, ◌*◌, drop}
use Rattle.std.specs.Prelude.{map, []}
use Rattle.gser_tree.specs.Tree.{shape_of}
use Rattle.gser_tree.specs.Reading.{gather}
use Rattle.subtree_spec.specs.SubtreeText.{refinement}
use Rattle.subtree_spec.specs.Subtrees.{choice_of}
use Rattle.subtree_spec.proofs.refinements.+refinement.Given as goal

abbrev pub invariant-refinements-loop-tree : goal.invariant-refinements-loop-tree
invariant-refinements-loop-tree l =
    gather (refinement l.depth) (map choice_of l.members.items) (map shape_of (drop l.tree-index l.trees)) l.bad.first
    ≡ gather (refinement l.depth) [] (map shape_of l.trees) l.initial.bad.first

abbrev pub decreases-refinement : goal.decreases-refinement
decreases-refinement l = 3 * l.depth

abbrev pub decreases-alternative : goal.decreases-alternative
decreases-alternative l = 3 * l.depth + 2

abbrev pub decreases-refinements : goal.decreases-refinements
decreases-refinements l = 3 * l.depth + 1
