-- The entries change as the rows do.
use Rattle.change_replay.proofs.making.MadeSteps.{put-rows}
use Rattle.change_replay.proofs.making.put_in.Goals as goal

pub returns-in-Ok : goal.returns-in-Ok
returns-in-Ok c = record { ok = λ expected. put-rows c.args.tree.now _ c.in-Ok._number.0 c.args.entry expected c.in-Ok.ensures.exact.0.left }
