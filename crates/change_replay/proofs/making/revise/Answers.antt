-- The entries change as the rows do.
use Rattle.change_replay.proofs.making.MadeSteps.{replaced-rows}
use Rattle.change_replay.proofs.making.revise.Goals as goal

pub returns : goal.returns
returns c = record {
  ok = λ expected. replaced-rows c.args.tree.now _ c.args.number.0 c.args.entry expected c.entries_form_a_tree.ensures.exact c.in_ok-_old.ensures.exact.left;
}
