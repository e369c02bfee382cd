-- An event more was given, or none is left.
use Rattle.std.proofs.Common.{sym, subst, arith}
use Rattle.event_replay.specs.Playing.{IsNext}
use Rattle.event_replay.proofs.played.PlayLemmas.{HasGiven, given-none, given-more, given-all, fewer-left}
use Rattle.event_replay.proofs.played.heard_events.Goals as goal

pub loop-events-init : goal.loop-events-init
loop-events-init c = record {
  given = subst (HasGiven c.args.link.now.plan.to_come c.args.link.now) (sym c.new-events.ensures.items) (given-none c.args.link.now c.requires.fresh);
  long = c.requires.long;
}

pub loop-events-preserved : goal.loop-events-preserved
loop-events-preserved c =
    let next : IsNext c.loop-events.link c.in-Some.event c.next_event.new.link = rw c.in-Some.is at c.in_ok-event.ensures.ok in
    record {
      given = subst (HasGiven c.args.link.now.plan.to_come c.next_event.new.link) (sym c.in_ok-push.ensures.items)
          (given-more c.args.link.now.plan.to_come c.loop-events.link c.next_event.new.link c.loop-events.events.items c.in-Some.event c.loop-events.invariant.given next);
      long = omega (arith, c.loop-events.invariant.long, c.next_event.auto.buffer);
    }

pub loop-events-smaller : goal.loop-events-smaller
loop-events-smaller c =
    let next : IsNext c.loop-events.link c.in-Some.event c.next_event.new.link = rw c.in-Some.is at c.in_ok-event.ensures.ok in
    fewer-left c.loop-events.link c.next_event.new.link c.in-Some.event next

pub returns : goal.returns
returns c =
    let none = rw c.in_default.is at c.in_ok-event.ensures.ok in
    record { ok = given-all c.args.link.now.plan.to_come c.loop-events.link c.loop-events.events.items c.loop-events.invariant.given none }
