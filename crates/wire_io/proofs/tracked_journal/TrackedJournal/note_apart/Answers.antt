use Rattle.wire_io.proofs.tracked_journal.TrackedLemmas.{IsTracked-quiet}
use Rattle.wire_io.proofs.tracked_journal.TrackedJournal.note_apart.Goals as goal

-- the item was added
pub invariant_of-self-2 : goal.invariant_of-self-2
invariant_of-self-2 c = IsTracked-quiet c.args.item c.requires c.in_ok-put_apart.ensures.ok c.self.invariant
