use Rattle.std.proofs.Common.{ap, sym, ◌∙◌}
use Rattle.wire_io.specs.Journal.{is_held}
use Rattle.wire_io.proofs.tracked_journal.TrackedLemmas.{state_read-some, state_read-none, held_none}
use Rattle.wire_io.proofs.tracked_journal.TrackedJournal.on_hold.Goals as goal

-- something is kept of the connection
pub returns-in-Some : goal.returns-in-Some
returns-in-Some c = record {
  exact = ap (λ state. state.on_hold) (state_read-some c.args.conn c.in-Some.peer.now c.self.invariant (sym c.in-Some.ensures.value)) ∙ ap (λ journal. is_held c.args.conn journal) c.self.view_is;
}

-- nothing is
pub returns-in-None : goal.returns-in-None
returns-in-None c = record {
  exact = ap (λ state. state.on_hold) (state_read-none c.args.conn c.self.invariant (sym c.in-None.ensures.value)) ∙ ap (λ journal. is_held c.args.conn journal) c.self.view_is;
}

-- no connection was ever put on hold
pub returns-then-not-self : goal.returns-then-not-self
returns-then-not-self c = record {
  exact = sym (ap (λ journal. is_held c.args.conn journal) (sym c.self.view_is) ∙ held_none c.args.conn c.self.invariant c.if-not-self.true);
}
