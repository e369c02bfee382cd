use Rattle.wire_io.proofs.tracked_journal.TrackedLemmas.{IsTracked-opened}
use Rattle.wire_io.proofs.tracked_journal.TrackedJournal.opened.Goals as goal

-- the number was put behind the others
pub invariant_of-self-2 : goal.invariant_of-self-2
invariant_of-self-2 c = IsTracked-opened c.args.conn (cc) c.in_ok-push.ensures.items c.self.invariant
