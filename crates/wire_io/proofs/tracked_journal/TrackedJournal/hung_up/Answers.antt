use Rattle.std.proofs.Common.{ap, sym, ◌∙◌}
use Rattle.wire_io.specs.Journal.{is_hung_up}
use Rattle.wire_io.proofs.tracked_journal.TrackedLemmas.{state_read-some, state_read-none}
use Rattle.wire_io.proofs.tracked_journal.TrackedJournal.hung_up.Goals as goal

-- something is kept of the connection
pub returns-in-Some : goal.returns-in-Some
returns-in-Some c = record {
  exact = ap (λ state. state.hung_up) (state_read-some c.args.conn c.in-Some.peer.now c.self.invariant (sym c.in-Some.ensures.value)) ∙ ap (λ journal. is_hung_up c.args.conn journal) c.self.view_is;
}

-- nothing is
pub returns-in-None : goal.returns-in-None
returns-in-None c = record {
  exact = ap (λ state. state.hung_up) (state_read-none c.args.conn c.self.invariant (sym c.in-None.ensures.value)) ∙ ap (λ journal. is_hung_up c.args.conn journal) c.self.view_is;
}
