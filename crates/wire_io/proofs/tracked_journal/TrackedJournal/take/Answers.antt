use Rattle.std.proofs.Common.{refl}
use Rattle.wire_io.specs.declared.journal.Item.TheVariants.{Taken}
use Rattle.wire_io.specs.Peers.{KeepsPeers}
use Rattle.wire_io.proofs.peers.PeersLemmas.{IsOf}
use Rattle.wire_io.proofs.tracked_journal.TrackedLemmas.{IsTracked-kept, IsTracked-changed, frees-taken}
use Rattle.wire_io.proofs.tracked_journal.TrackedJournal.take.Goals as goal

-- room for the octets was not found
pub invariant_of-self-in_err-take : goal.invariant_of-self-in_err-take
invariant_of-self-in_err-take c = IsTracked-kept c.reserve.ensures.kept c.self.invariant c.in_err-take.ensures.err

-- the octets were taken
pub invariant_of-self-2 : goal.invariant_of-self-2
unfolding IsOf KeepsPeers
invariant_of-self-2 c =
    IsTracked-changed c.args.conn (Taken c.args.conn c.args.octets.now) refl (frees-taken c.args.conn c.args.octets.now) c.put.ensures.exact
    (IsTracked-kept c.reserve.ensures.kept c.self.invariant (λ other. refl)) c.in_ok-take.ensures.ok
