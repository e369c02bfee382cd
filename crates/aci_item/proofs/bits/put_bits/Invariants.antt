-- The bits of the rows so far are written.
use Rattle.std.proofs.Common.{take, true}
use Rattle.std.specs.Prelude.{filter, map, string_bytes}
use Rattle.gser_tree.specs.Writing.{print_word, PutsMembers}
use Rattle.aci_item.specs.Permission.{has_bit}
use Rattle.aci_item.proofs.bits.put_bits.Given as goal

abbrev pub invariant-loop-row : goal.invariant-loop-row
invariant-loop-row l =
    PutsMembers (string_bytes l.initial.out) (string_bytes l.out) true l.first
    (map (λ row. print_word row.name.now) (filter (λ row. has_bit row.permission row.grants l.bits) (take l.row-index l.row-items)))
