-- The members so far are written.
use Rattle.std.proofs.Common.{take, true}
use Rattle.std.specs.Prelude.{map, string_bytes}
use Rattle.gser_tree.specs.Writing.{PutsMembers}
use Rattle.subtree_spec.specs.Subtrees.{subtree_of}
use Rattle.subtree_spec.specs.SubtreePrinted.{print_subtree}
use Rattle.aci_item.proofs.printing.put_subtree_set.Given as goal

abbrev pub invariant-loop-spec : goal.invariant-loop-spec
invariant-loop-spec l = PutsMembers (string_bytes l.initial.out) (string_bytes l.out) true l.first (map (λ spec. print_subtree (subtree_of spec)) (take l.spec-index l.subtrees))
