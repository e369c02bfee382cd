use Rattle.wire_io.proofs.tracked_journal.TrackedLemmas.{IsTracked-noted}
use Rattle.wire_io.proofs.tracked_journal.TrackedJournal.note.Goals as goal

-- the item was added
pub invariant_of-self-2 : goal.invariant_of-self-2
invariant_of-self-2 c = IsTracked-noted c.args.note c.args.conn c.args.octets.now c.requires (cc) c.self.invariant
