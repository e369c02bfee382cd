-- The refinements so far are written.
use Rattle.std.proofs.Common.{take, true}
use Rattle.std.specs.Prelude.{map, string_bytes}
use Rattle.gser_tree.specs.Writing.{PutsMembers}
use Rattle.subtree_spec.specs.Subtrees.{choice_of}
use Rattle.subtree_spec.specs.SubtreePrinted.{print_refinement}
use Rattle.subtree_spec.proofs.printing.+put_refinement.Given as goal

abbrev pub invariant-put_refinements-loop-member : goal.invariant-put_refinements-loop-member
invariant-put_refinements-loop-member l =
    PutsMembers (string_bytes l.initial.out) (string_bytes l.out) true l.first
    (map (λ member. print_refinement (choice_of member)) (take l.member-index l.members))
