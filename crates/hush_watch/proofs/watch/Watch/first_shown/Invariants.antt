use Rattle.std.proofs.Common.{◌≡◌, take, drop}
use Rattle.dir_tree.specs.tree.Numbered.{entries_of}
use Rattle.event_replay.specs.Played.{played_steps}
use Rattle.hush_watch.specs.Watching.{IsAhead}
use Rattle.hush_watch.proofs.watch.Watch.first_shown.Given as goal

abbrev pub invariant-loop-event : goal.invariant-loop-event
invariant-loop-event l = record {
  counted : l.heard ≡ l.event-index;
  ahead : IsAhead l.self.number l.self.top.now (entries_of l.self.before.now) (played_steps (take l.event-index l.events)) (played_steps (drop l.event-index l.events)) l.watched;
}
