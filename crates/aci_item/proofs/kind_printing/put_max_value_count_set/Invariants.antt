-- The members so far are written.
use Rattle.std.proofs.Common.{take, true}
use Rattle.std.specs.Prelude.{map, string_bytes}
use Rattle.gser_tree.specs.Writing.{PutsMembers}
use Rattle.aci_item.specs.item.Views.{max_value_count_of}
use Rattle.aci_item.specs.ItemPrinted.{print_max_value_count}
use Rattle.aci_item.proofs.kind_printing.put_max_value_count_set.Given as goal

abbrev pub invariant-loop-limit : goal.invariant-loop-limit
invariant-loop-limit l =
    PutsMembers (string_bytes l.initial.out) (string_bytes l.out) true l.first (map (λ limit. print_max_value_count (max_value_count_of limit)) (take l.limit-index l.limits))
