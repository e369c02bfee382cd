use Rattle.dir_tree.specs.tree.Numbered.{entries_of}
use Rattle.hush_watch.proofs.WatchLemmas.{shows-ended}
use Rattle.hush_watch.proofs.watch.Watch.watch_end.Goals as goal

-- nothing new is shown
pub returns : goal.returns
returns c = record { ok = shows-ended c.args.self.now.number c.args.self.now.top.now (entries_of c.args.self.now.before.now) c.args.conn c.args.watched.now c.hear.new.self c.in_ok-hear.ensures.ok }
