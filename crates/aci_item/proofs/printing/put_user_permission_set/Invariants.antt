-- The members so far are written.
use Rattle.std.proofs.Common.{take, true}
use Rattle.std.specs.Prelude.{map, string_bytes}
use Rattle.gser_tree.specs.Writing.{PutsMembers}
use Rattle.aci_item.specs.ItemPrinted.{print_user_permission}
use Rattle.aci_item.specs.item.Views.{user_permission_of}
use Rattle.aci_item.proofs.printing.put_user_permission_set.Given as goal

abbrev pub invariant-loop-permission : goal.invariant-loop-permission
invariant-loop-permission l = PutsMembers (string_bytes l.initial.out) (string_bytes l.out) true l.first (map (λ p. print_user_permission (user_permission_of p)) (take l.permission-index l.permissions))
