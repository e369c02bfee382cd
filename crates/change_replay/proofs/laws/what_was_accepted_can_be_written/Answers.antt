-- By the theorems, over the laws of types and of what is applied.
use Rattle.change_replay.specs.Accepted.{after}
use Rattle.change_replay.proofs.laws.WritableLemmas.{writable-applied}
use Rattle.change_replay.proofs.laws.RecoveredLemmas.{applied-outcome}
use Rattle.change_replay.proofs.laws.what_was_accepted_can_be_written.Goals as goal

pub returns : goal.returns
returns c =
    let applies = c.what_was_accepted_is_applied.ensures in
    record {
      exact = λ entries change is octets.
          writable-applied c.known_types_can_be_written.ensures.exact entries (after entries change) change.request
          (applied-outcome applies.deleted applies.added applies.modified applies.renamed entries change.who change.request (after entries change) is.accepted) octets;
    }
