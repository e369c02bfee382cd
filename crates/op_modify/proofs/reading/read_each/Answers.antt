-- Changes are read one after the other.
use Rattle.std.proofs.Common.{◌∙◌, ap, sym, drop, ◌+◌}
use Rattle.std.proofs.lemmas.List.{drop_all}
use Rattle.dir_tree.proofs.base_laws_proofs.Theorems.{next-item}
use Rattle.op_modify.specs.ReadChanges.{read_each}
use Rattle.op_modify.proofs.reading.ReadingLemmas.{changes-step, changes-fault, changes-done}
use Rattle.op_modify.proofs.reading.read_each.Goals as goal
use Rattle.op_add_delete.proofs.Theorems.{put_before}

-- one is none
pub returns-in-Err : goal.returns-in-Err
returns-in-Err c =
    let left = next-item c.args.given.now c.loop-item.item-index c.item-item.result c.loop-item-test.true c.item-item.is in
    record {
      exact = changes-fault c.loop-item.changes.items c.args.given.now c.loop-item.item-index c.item-item.result _ c.in-Err.fault left c.loop-item.invariant c.in-Err.ensures.exact;
    }

-- one more is read
pub loop-item-preserved : goal.loop-item-preserved
loop-item-preserved c =
    let left = next-item c.args.given.now c.loop-item.item-index c.item-item.result c.loop-item-test.true c.item-item.is in
    c.loop-item.invariant
    ∙ changes-step c.loop-item.changes.items c.args.given.now c.loop-item.item-index c.item-item.result c.in-Ok.change left c.in-Ok.ensures.exact
    ∙ ap (λ items. put_before items (read_each (drop (c.loop-item.item-index + 1) c.args.given.now))) (sym c.in_ok-push-in-Ok.ensures.items)

-- all are read
pub returns : goal.returns
returns c = record {
  exact = c.loop-item.invariant ∙ changes-done c.loop-item.changes.items _ (drop_all c.loop-item.item-index c.args.given.now c.loop-item-test.false);
}
