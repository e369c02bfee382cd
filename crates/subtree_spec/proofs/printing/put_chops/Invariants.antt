-- The exclusions so far are written.
use Rattle.std.proofs.Common.{take}
use Rattle.std.specs.Prelude.{string_bytes}
use Rattle.gser_tree.specs.Writing.{PutsMembers}
use Rattle.subtree_spec.specs.SubtreePrinted.{print_chops}
use Rattle.subtree_spec.proofs.printing.put_chops.Given as goal

abbrev pub invariant-loop-name : goal.invariant-loop-name
invariant-loop-name l =
    PutsMembers (string_bytes l.initial.out) (string_bytes l.out) l.initial.first l.first (print_chops l.kind (take l.name-index l.names))
