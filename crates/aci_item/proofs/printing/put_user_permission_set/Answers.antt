-- One more member is written, and then the end of the set.
use Rattle.std.proofs.Common.{true}
use Rattle.std.specs.Prelude.{string_bytes}
use Rattle.subtree_spec.proofs.Theorems.{put_next}
use Rattle.aci_item.specs.ItemPrinted.{print_user_permission}
use Rattle.aci_item.specs.item.Views.{user_permission_of}
use Rattle.aci_item.proofs.printing.PrintedLemmas.{put_viewed}
use Rattle.aci_item.proofs.printing.put_user_permission_set.Goals as goal

pub loop-permission-preserved : goal.loop-permission-preserved
loop-permission-preserved c =
    put_next (λ p. print_user_permission (user_permission_of p)) (string_bytes c.args.out.now) (string_bytes c.loop-permission.out)
    (string_bytes c.put_separator.new.out) (string_bytes c.put_user_permission.new.out) true c.loop-permission.first c.args.permissions.now
    c.loop-permission.permission-index c.permission-item.result c.loop-permission-test.true c.permission-item.is c.loop-permission.invariant
    c.in_ok-put_separator.ensures.ok c.in_ok-put_user_permission.ensures.ok

pub returns : goal.returns
returns c = record {
  ok = put_viewed user_permission_of print_user_permission (string_bytes c.args.out.now) (string_bytes c.loop-permission.out) (string_bytes c.put_end.new.out) c.loop-permission.first c.args.permissions.now
      c.loop-permission.permission-index c.loop-permission-test.false c.loop-permission.invariant c.in_ok-put_end.ensures.ok;
}
