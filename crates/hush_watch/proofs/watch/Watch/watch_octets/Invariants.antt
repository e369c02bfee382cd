use Rattle.std.proofs.Common.{length}
use Rattle.dir_tree.specs.tree.Numbered.{entries_of}
use Rattle.hush_watch.specs.Watching.{Leads}
use Rattle.hush_watch.proofs.watch.Watch.watch_octets.Given as goal

abbrev pub invariant-loop-next : goal.invariant-loop-next
invariant-loop-next l = Leads l.self.number l.self.top.now (entries_of l.self.before.now) l.conn l.fn.octets l.initial.watched l.rest l.watched

abbrev pub decreases-loop-next : goal.decreases-loop-next
decreases-loop-next l = length l.rest
