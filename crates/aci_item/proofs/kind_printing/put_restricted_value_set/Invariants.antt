-- The members so far are written.
use Rattle.std.proofs.Common.{take, true}
use Rattle.std.specs.Prelude.{map, string_bytes}
use Rattle.gser_tree.specs.Writing.{PutsMembers}
use Rattle.aci_item.specs.item.Views.{restricted_value_of}
use Rattle.aci_item.specs.ItemPrinted.{print_restricted_value}
use Rattle.aci_item.proofs.kind_printing.put_restricted_value_set.Given as goal

abbrev pub invariant-loop-limit : goal.invariant-loop-limit
invariant-loop-limit l =
    PutsMembers (string_bytes l.initial.out) (string_bytes l.out) true l.first (map (λ limit. print_restricted_value (restricted_value_of limit)) (take l.limit-index l.limits))
