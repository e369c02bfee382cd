-- The steps of the events are those of the pieces.
use Rattle.std.proofs.lemmas.Result.{IfOk-weaker}
use Rattle.event_replay.proofs.played.PlayLemmas.{steps-played}
use Rattle.event_replay.proofs.played.played_events.Goals as goal

pub returns-clause-steps : goal.returns-clause-steps
returns-clause-steps c = IfOk-weaker c.heard_events.result _ _ (λ events played. steps-played c.args.link.plan.to_come events.items played) c.heard_events.ensures.ok
