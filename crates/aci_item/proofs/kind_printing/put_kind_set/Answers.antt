-- One more member is written, and then the end of the set.
use Rattle.std.proofs.Common.{true, get_or}
use Rattle.std.proofs.lemmas.List.{get_or_default}
use Rattle.std.specs.Prelude.{string_bytes}
use Rattle.dir_tree.specs.schema_tables.declared.kinds.AttrId.{AttrId}
use Rattle.subtree_spec.proofs.Theorems.{put_next}
use Rattle.aci_item.specs.ItemPrinted.{print_kind}
use Rattle.aci_item.proofs.printing.PrintedLemmas.{put_viewed}
use Rattle.aci_item.proofs.kind_printing.put_kind_set.Goals as goal

pub loop-kind-preserved : goal.loop-kind-preserved
loop-kind-preserved c =
    let kinds = c.args.kinds.now in
    let index = c.loop-kind.kind-index in
    let kind : AttrId = get_or kinds index (record { 0 = 0 }) in
    put_next (λ (kind : AttrId). print_kind kind.0) (string_bytes c.args.out.now) (string_bytes c.loop-kind.out)
    (string_bytes c.put_separator.new.out) (string_bytes c.put_attribute.new.out) true c.loop-kind.first kinds
    index kind c.loop-kind-test.true (get_or_default kinds index (record { 0 = 0 }) kind c.loop-kind-test.true) c.loop-kind.invariant
    c.in_ok-put_separator.ensures.ok c.in_ok-put_attribute.ensures.ok

pub returns : goal.returns
returns c = record {
  ok = put_viewed (λ kind. kind.0) print_kind (string_bytes c.args.out.now) (string_bytes c.loop-kind.out) (string_bytes c.put_end.new.out) c.loop-kind.first c.args.kinds.now
      c.loop-kind.kind-index c.loop-kind-test.false c.loop-kind.invariant c.in_ok-put_end.ensures.ok;
}
