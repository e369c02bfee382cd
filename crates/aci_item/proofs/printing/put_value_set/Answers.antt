-- One more member is written, and then the end of the set.
use Rattle.std.proofs.Common.{true}
use Rattle.std.specs.Prelude.{string_bytes}
use Rattle.subtree_spec.proofs.Theorems.{put_next}
use Rattle.aci_item.specs.ItemPrinted.{print_value}
use Rattle.aci_item.proofs.printing.PrintedLemmas.{put_members}
use Rattle.aci_item.proofs.printing.put_value_set.Goals as goal

pub loop-pair-preserved : goal.loop-pair-preserved
loop-pair-preserved c =
    put_next print_value (string_bytes c.args.out.now) (string_bytes c.loop-pair.out)
    (string_bytes c.put_separator.new.out) (string_bytes c.put_value.new.out) true c.loop-pair.first c.args.values.now
    c.loop-pair.pair-index c.pair-item.result c.loop-pair-test.true c.pair-item.is c.loop-pair.invariant
    c.in_ok-put_separator.ensures.ok c.in_ok-put_value.ensures.ok

pub returns : goal.returns
returns c = record {
  ok = put_members print_value (string_bytes c.args.out.now) (string_bytes c.loop-pair.out) (string_bytes c.put_end.new.out) c.loop-pair.first c.args.values.now
      c.loop-pair.pair-index c.loop-pair-test.false c.loop-pair.invariant c.in_ok-put_end.ensures.ok;
}
