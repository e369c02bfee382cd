use Rattle.std.proofs.Common.{ap, sym, ◌∙◌}
use Rattle.wire_io.specs.Journal.{taken_of}
use Rattle.wire_io.proofs.tracked_journal.TrackedLemmas.{state_read-some, state_read-none}
use Rattle.wire_io.proofs.tracked_journal.TrackedJournal.said_of.Goals as goal

-- something is kept of the connection
pub returns-in-Some : goal.returns-in-Some
returns-in-Some c = record {
  exact = c.as_slice.ensures.value ∙ ap (λ state. state.taken) (state_read-some c.args.conn c.in-Some.peer.now c.self.invariant (sym c.in-Some.ensures.value)) ∙ ap (λ journal. taken_of c.args.conn journal) c.self.view_is;
}

-- nothing is
pub returns-in-None : goal.returns-in-None
returns-in-None c = record {
  exact = ap (λ state. state.taken) (state_read-none c.args.conn c.self.invariant (sym c.in-None.ensures.value)) ∙ ap (λ journal. taken_of c.args.conn journal) c.self.view_is;
}
