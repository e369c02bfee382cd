use Rattle.std.proofs.Common.{subst}
use Rattle.dir_tree.specs.tree.Numbered.{entries_of}
use Rattle.event_replay.specs.Played.{step_of}
use Rattle.hush_watch.specs.Served.{HangsUp}
use Rattle.hush_watch.proofs.WatchLemmas.{shows-hanging_up}
use Rattle.hush_watch.proofs.watch.Watch.watch_event.Goals as goal

-- the connection is hung up behind the event
pub returns : goal.returns
returns c = record {
  ok =
      shows-hanging_up c.args.self.now.number c.args.self.now.top.now (entries_of c.args.self.now.before.now) (step_of c.args.event.now) c.args.watched.now c.hear_event.new.watched c.let_go.new.self c.in_ok-found.found
      c.in_ok-found.ensures.ok (subst (λ n. HangsUp n c.hear_event.new.watched c.let_go.new.self) c.number_of.ensures.exact c.let_go.ensures);
}
