-- The entries change as the rows do.
use Rattle.change_replay.proofs.making.MadeSteps.{replaced-rows}
use Rattle.change_replay.proofs.making.replace.Goals as goal

pub returns-in-Ok : goal.returns-in-Ok
returns-in-Ok c = record {
  ok = λ expected. replaced-rows c.args.tree.now _ c.args.number.0 c.args.entry expected c.entries_form_a_tree.ensures.exact c.in-Ok.ensures.exact.0.left;
}
