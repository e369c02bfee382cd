-- The members so far are written.
use Rattle.std.proofs.Common.{take, true}
use Rattle.std.specs.Prelude.{map, string_bytes}
use Rattle.gser_tree.specs.Writing.{PutsMembers}
use Rattle.aci_item.specs.ItemPrinted.{print_user}
use Rattle.aci_item.proofs.printing.put_user_set.Given as goal

abbrev pub invariant-loop-user : goal.invariant-loop-user
invariant-loop-user l = PutsMembers (string_bytes l.initial.out) (string_bytes l.out) true l.first (map print_user (take l.user-index l.users))
