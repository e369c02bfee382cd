-- The members so far are written.
use Rattle.std.proofs.Common.{take, true}
use Rattle.std.specs.Prelude.{map, string_bytes}
use Rattle.gser_tree.specs.Writing.{PutsMembers}
use Rattle.aci_item.specs.ItemPrinted.{print_value}
use Rattle.aci_item.proofs.printing.put_value_set.Given as goal

abbrev pub invariant-loop-pair : goal.invariant-loop-pair
invariant-loop-pair l = PutsMembers (string_bytes l.initial.out) (string_bytes l.out) true l.first (map print_value (take l.pair-index l.values))
