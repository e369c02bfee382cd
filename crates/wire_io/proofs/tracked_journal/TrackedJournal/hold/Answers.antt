use Rattle.std.proofs.Common.{refl}
use Rattle.wire_io.proofs.tracked_journal.TrackedLemmas.{IsTracked-kept, IsTracked-held}
use Rattle.wire_io.proofs.tracked_journal.TrackedJournal.hold.Goals as goal

-- room for the connection was not found, or was made
pub invariant_of-self-in_err-add_peer : goal.invariant_of-self-in_err-add_peer
invariant_of-self-in_err-add_peer c = IsTracked-kept c.reserve.ensures.kept c.self.invariant c.add_peer.ensures.kept

-- the connection was changed
pub invariant_of-self-2 : goal.invariant_of-self-2
invariant_of-self-2 c =
    IsTracked-held c.args.conn (cc)
    (IsTracked-kept c.reserve.ensures.kept c.self.invariant c.add_peer.ensures.kept) (c.set_on_hold.ensures.held refl)
