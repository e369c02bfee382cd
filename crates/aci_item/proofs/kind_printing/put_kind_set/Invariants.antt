-- The members so far are written.
use Rattle.std.proofs.Common.{take, true}
use Rattle.std.specs.Prelude.{map, string_bytes}
use Rattle.gser_tree.specs.Writing.{PutsMembers}
use Rattle.aci_item.specs.ItemPrinted.{print_kind}
use Rattle.aci_item.proofs.kind_printing.put_kind_set.Given as goal

abbrev pub invariant-loop-kind : goal.invariant-loop-kind
invariant-loop-kind l = PutsMembers (string_bytes l.initial.out) (string_bytes l.out) true l.first (map (λ kind. print_kind kind.0) (take l.kind-index l.kinds))
