-- The link gave the event that was copied.
use Rattle.std.proofs.Common.{arith}
use Rattle.std.proofs.lemmas.Result.{IfOk-weaker}
use Rattle.event_replay.proofs.played.PlayLemmas.{takes-next}
use Rattle.event_replay.proofs.played.next_event.Goals as goal

pub returns-in-Ok : goal.returns-in-Ok
returns-in-Ok c = record {
  ok = IfOk-weaker c.given_event.result _ _
      (λ next given. takes-next c.args.link.now c.next.new.self c.next.new.buf c.in-Ok.heard next (omega (arith, c.requires.long, c.next.auto.buf)) c.in-Ok.ensures.tells c.in-Ok.ensures.plays given)
      c.given_event.ensures.ok;
}
