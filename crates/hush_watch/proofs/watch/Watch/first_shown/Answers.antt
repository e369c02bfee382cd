use Rattle.std.proofs.Common.{◌<◌, ◌≤◌, ◌+◌, length, refl, ap, subst, arith}
use Rattle.dir_tree.specs.tree.Numbered.{entries_of}
use Rattle.session_hub.specs.session_model.Replaying.{step_and_hang_up}
use Rattle.session_hub.specs.Answering.{rules}
use Rattle.session_hub.specs.Terms.{no_terms}
use Rattle.event_replay.specs.Played.{step_of, played_steps}
use Rattle.hush_watch.specs.Watching.{Shows}
use Rattle.hush_watch.proofs.AheadLemmas.{ahead-start, event-found, event-on, events-done}
use Rattle.hush_watch.proofs.watch.Watch.first_shown.Goals as goal

-- all events are left
pub loop-event-init : goal.loop-event-init
loop-event-init c = record {
  counted = refl;
  ahead = ahead-start c.args.self.now.number c.args.self.now.top.now (entries_of c.args.self.now.before.now) (played_steps c.args.events.now) c.args.watched.now c.requires.begins;
}

-- an event shows nothing
pub loop-event-preserved : goal.loop-event-preserved
loop-event-preserved c =
    let within : c.loop-event.event-index < length c.args.events.now = omega arith in
    record {
      counted = ap (λ n. n + 1) c.loop-event.invariant.counted;
      ahead =
          event-on c.args.self.now.number c.args.self.now.top.now (entries_of c.args.self.now.before.now) c.args.events.now c.requires.played c.loop-event.event-index c.loop-event.watched c.loop-event.invariant.ahead
          c.event-item.result c.watch_event.new.watched within c.event-item.is
          (subst (λ part. Shows c.args.self.now.number c.args.self.now.top.now (entries_of c.args.self.now.before.now) (step_and_hang_up (rules no_terms)) (step_of c.event-item.result) c.loop-event.watched part c.watch_event.new.watched)
          c.in_default.is c.in_ok-part.ensures.ok);
    }

-- or a part broken
pub returns-in-Some : goal.returns-in-Some
returns-in-Some c =
    let within : c.loop-event.event-index < length c.args.events.now = omega arith in
    record {
      ok =
          event-found c.args.self.now.number c.args.self.now.top.now (entries_of c.args.self.now.before.now) c.args.events.now c.requires.played c.loop-event.event-index c.loop-event.watched c.loop-event.invariant.ahead
          c.event-item.result (c.loop-event.heard + 1) c.watch_event.new.watched c.in-Some.part within c.event-item.is (ap (λ n. n + 1) c.loop-event.invariant.counted)
          (subst (λ part. Shows c.args.self.now.number c.args.self.now.top.now (entries_of c.args.self.now.before.now) (step_and_hang_up (rules no_terms)) (step_of c.event-item.result) c.loop-event.watched part c.watch_event.new.watched)
          c.in-Some.is c.in_ok-part.ensures.ok);
    }

-- no event is left
pub returns : goal.returns
returns c =
    let past : length c.args.events.now ≤ c.loop-event.event-index = omega arith in
    record {
      ok =
          events-done c.args.self.now.number c.args.self.now.top.now (entries_of c.args.self.now.before.now) c.args.events.now c.requires.played c.loop-event.event-index c.loop-event.watched c.loop-event.invariant.ahead past;
    }
