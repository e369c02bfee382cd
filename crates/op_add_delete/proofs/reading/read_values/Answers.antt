-- Values are read one after the other.
use Rattle.std.proofs.Common.{◌∙◌, ap, sym, drop, ◌+◌}
use Rattle.std.proofs.lemmas.List.{drop_all}
use Rattle.dir_tree.proofs.base_laws_proofs.Theorems.{next-item}
use Rattle.op_add_delete.specs.reading.NewEntries.{read_values}
use Rattle.op_add_delete.proofs.reading.ReadingLemmas.{put_before, values-step, values-fault, values-done}
use Rattle.op_add_delete.proofs.reading.read_values.Goals as goal

-- one is none
pub returns-in-Err : goal.returns-in-Err
returns-in-Err c =
    let left = next-item c.args.given.now c.loop-octets.octets-index c.octets-item.result c.loop-octets-test.true c.octets-item.is in
    record {
      exact = values-fault c.args.kind.0 c.loop-octets.values.items c.args.given.now c.loop-octets.octets-index c.octets-item.result _ c.in-Err.fault left c.loop-octets.invariant
          (rw c.as_slice.ensures.exact at c.in-Err.ensures.exact);
    }

-- one more is read
pub loop-octets-preserved : goal.loop-octets-preserved
loop-octets-preserved c =
    let left = next-item c.args.given.now c.loop-octets.octets-index c.octets-item.result c.loop-octets-test.true c.octets-item.is in
    c.loop-octets.invariant
    ∙ values-step c.args.kind.0 c.loop-octets.values.items c.args.given.now c.loop-octets.octets-index c.octets-item.result c.in-Ok.value left (rw c.as_slice.ensures.exact at c.in-Ok.ensures.exact)
    ∙ ap (λ items. put_before items (read_values c.args.kind.0 (drop (c.loop-octets.octets-index + 1) c.args.given.now))) (sym c.in_ok-push-in-Ok.ensures.items)

-- all are read
pub returns : goal.returns
returns c = record {
  exact = c.loop-octets.invariant ∙ values-done c.args.kind.0 c.loop-octets.values.items _ (drop_all c.loop-octets.octets-index c.args.given.now c.loop-octets-test.false);
}
