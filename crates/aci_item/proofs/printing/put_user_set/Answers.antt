-- One more member is written, and then the end of the set.
use Rattle.std.proofs.Common.{true}
use Rattle.std.specs.Prelude.{string_bytes}
use Rattle.subtree_spec.proofs.Theorems.{put_next}
use Rattle.aci_item.specs.ItemPrinted.{print_user}
use Rattle.aci_item.proofs.printing.PrintedLemmas.{put_members}
use Rattle.aci_item.proofs.printing.put_user_set.Goals as goal

pub loop-user-preserved : goal.loop-user-preserved
loop-user-preserved c =
    put_next print_user (string_bytes c.args.out.now) (string_bytes c.loop-user.out)
    (string_bytes c.put_separator.new.out) (string_bytes c.put_user.new.out) true c.loop-user.first c.args.users.now
    c.loop-user.user-index c.user-item.result c.loop-user-test.true c.user-item.is c.loop-user.invariant
    c.in_ok-put_separator.ensures.ok c.in_ok-put_user.ensures.ok

pub returns : goal.returns
returns c = record {
  ok = put_members print_user (string_bytes c.args.out.now) (string_bytes c.loop-user.out) (string_bytes c.put_end.new.out) c.loop-user.first c.args.users.now
      c.loop-user.user-index c.loop-user-test.false c.loop-user.invariant c.in_ok-put_end.ensures.ok;
}
