-- One more member is written, and then the end of the set.
use Rattle.std.proofs.Common.{true, get_or}
use Rattle.std.proofs.lemmas.List.{get_or_default}
use Rattle.std.specs.Prelude.{string_bytes}
use Rattle.subtree_spec.proofs.Theorems.{put_next}
use Rattle.aci_item.specs.declared.protected.MaxValueCount.{MaxValueCount}
use Rattle.aci_item.specs.item.Views.{max_value_count_of}
use Rattle.aci_item.specs.ItemPrinted.{print_max_value_count}
use Rattle.aci_item.proofs.printing.PrintedLemmas.{put_viewed}
use Rattle.aci_item.proofs.kind_printing.put_max_value_count_set.Goals as goal

pub loop-limit-preserved : goal.loop-limit-preserved
loop-limit-preserved c =
    let limits = c.args.limits.now in
    let index = c.loop-limit.limit-index in
    let none : MaxValueCount = record { kind = record { 0 = 0 }; max_count = 0 } in
    let limit : MaxValueCount = get_or limits index none in
    put_next (λ (limit : MaxValueCount). print_max_value_count (max_value_count_of limit)) (string_bytes c.args.out.now) (string_bytes c.loop-limit.out)
    (string_bytes c.put_separator.new.out) (string_bytes c.put_max_value_count.new.out) true c.loop-limit.first limits
    index limit c.loop-limit-test.true (get_or_default limits index none limit c.loop-limit-test.true) c.loop-limit.invariant
    c.in_ok-put_separator.ensures.ok c.in_ok-put_max_value_count.ensures.ok

pub returns : goal.returns
returns c = record {
  ok = put_viewed max_value_count_of print_max_value_count (string_bytes c.args.out.now) (string_bytes c.loop-limit.out) (string_bytes c.put_end.new.out) c.loop-limit.first c.args.limits.now
      c.loop-limit.limit-index c.loop-limit-test.false c.loop-limit.invariant c.in_ok-put_end.ensures.ok;
}
