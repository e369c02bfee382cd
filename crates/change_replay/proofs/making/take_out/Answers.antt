-- The entries change as the rows do.
use Rattle.change_replay.proofs.making.MadeSteps.{taken-rows}
use Rattle.change_replay.proofs.making.take_out.Goals as goal

pub returns-in-Ok : goal.returns-in-Ok
returns-in-Ok c = record { ok = λ expected. taken-rows c.args.tree.now _ c.args.number.0 expected c.entries_form_a_tree.ensures.exact c.in-Ok.ensures.exact.0.left }
