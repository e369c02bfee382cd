-- One more member is written, and then the end of the set.
use Rattle.std.proofs.Common.{true}
use Rattle.std.specs.Prelude.{string_bytes}
use Rattle.subtree_spec.proofs.Theorems.{put_next}
use Rattle.subtree_spec.specs.Subtrees.{subtree_of}
use Rattle.subtree_spec.specs.SubtreePrinted.{print_subtree}
use Rattle.aci_item.proofs.printing.PrintedLemmas.{put_viewed}
use Rattle.aci_item.proofs.printing.put_subtree_set.Goals as goal

pub loop-spec-preserved : goal.loop-spec-preserved
loop-spec-preserved c =
    put_next (λ spec. print_subtree (subtree_of spec)) (string_bytes c.args.out.now) (string_bytes c.loop-spec.out)
    (string_bytes c.put_separator.new.out) (string_bytes c.print.new.out) true c.loop-spec.first c.args.subtrees.now
    c.loop-spec.spec-index c.spec-item.result c.loop-spec-test.true c.spec-item.is c.loop-spec.invariant
    c.in_ok-put_separator.ensures.ok c.in_ok-print.ensures.ok

pub returns : goal.returns
returns c = record {
  ok = put_viewed subtree_of print_subtree (string_bytes c.args.out.now) (string_bytes c.loop-spec.out) (string_bytes c.put_end.new.out) c.loop-spec.first c.args.subtrees.now
      c.loop-spec.spec-index c.loop-spec-test.false c.loop-spec.invariant c.in_ok-put_end.ensures.ok;
}
