use Rattle.std.proofs.Common.{refl}
use Rattle.wire_io.proofs.tracked_journal.TrackedLemmas.{IsTracked-nothing}
use Rattle.wire_io.proofs.tracked_journal.TrackedJournal.new.Goals as goal

-- nothing was done, and nothing is kept
pub invariant_of-result : goal.invariant_of-result
invariant_of-result c = IsTracked-nothing c.new.ensures.empty (λ conn. rw c.new-2.ensures.empty refl) c.new-3.ensures.items
