-- They are played as they are among all, and their steps are those of the connection.
use Rattle.std.proofs.lemmas.Result.{IfOk-weaker}
use Rattle.event_replay.proofs.own.OwnLemmas.{played-own, purged-own}
use Rattle.event_replay.proofs.own.own_events.Goals as goal

pub returns : goal.returns
returns c = record {
  played = IfOk-weaker c.copied_own.result _ _ (λ own is. played-own c.args.number c.args.events.now own.items is c.requires.played) c.copied_own.ensures.ok;
  ok = IfOk-weaker c.copied_own.result _ _ (λ own is. purged-own c.args.number c.args.events.now own.items is) c.copied_own.ensures.ok;
}
