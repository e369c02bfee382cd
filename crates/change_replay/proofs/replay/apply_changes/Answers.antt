-- Changes are made one after the other.
use Rattle.std.proofs.Common.{◌∙◌}
use Rattle.std.proofs.lemmas.List.{drop_all}
use Rattle.dir_tree.specs.tree.Numbered.{entries_of}
use Rattle.dir_tree.proofs.base_laws_proofs.Theorems.{next-item}
use Rattle.change_replay.proofs.replay.ReplaySteps.{replayed-step, replayed-fault, replayed-done}
use Rattle.change_replay.proofs.replay.apply_changes.Goals as goal

-- one is refused
pub returns-in-Err : goal.returns-in-Err
returns-in-Err c =
    let left = next-item c.args.changes.now c.loop-recorded.recorded-index c.recorded-item.result c.loop-recorded-test.true c.recorded-item.is in
    record {
      ok = tt;
      refused = replayed-fault (entries_of c.loop-recorded.tree) c.args.changes.now c.loop-recorded.recorded-index c.recorded-item.result c.in-Err.fault _ left c.loop-recorded.invariant c.in-Err.ensures.exact;
    }

-- one more is made
pub loop-recorded-preserved : goal.loop-recorded-preserved
loop-recorded-preserved c =
    let left = next-item c.args.changes.now c.loop-recorded.recorded-index c.recorded-item.result c.loop-recorded-test.true c.recorded-item.is in
    c.loop-recorded.invariant
    ∙ replayed-step (entries_of c.loop-recorded.tree) _ c.args.changes.now c.loop-recorded.recorded-index c.recorded-item.result left c.in-Ok.ensures.exact

-- all are made
pub returns : goal.returns
returns c = record {
  ok = c.loop-recorded.invariant ∙ replayed-done (entries_of c.loop-recorded.tree) _ (drop_all c.loop-recorded.recorded-index c.args.changes.now c.loop-recorded-test.false);
  refused = tt;
}
