use Rattle.std.proofs.Common.{refl, ap, sym, ◌∙◌}
use Rattle.session_model.proofs.wire_io_proofs.Theorems.{NoteRefusal-starved}
use Rattle.session_hub.specs.hub.Hubs.{HubState}
use Rattle.session_hub.specs.serve.Servers.{state_of}
use Rattle.session_hub.proofs.serving.KeepingLemmas.{note_settles}
use Rattle.session_hub.proofs.serving.ServingLemmas.{goes_on, hangs_up, not_hung_up}
use Rattle.session_hub.proofs.server.Server.hang_up_closing.Goals as goal

-- it goes on
pub returns-then-not-closing-clause-adds : goal.returns-then-not-closing-clause-adds
returns-then-not-closing-clause-adds g c = rw (← c.self.view_is) (λ entries. goes_on entries c.args.conn _ (sym c.closing.ensures.exact ∙ c.if-not-closing.true))

-- it is hung up
pub returns-in-Ok-clause-adds : goal.returns-in-Ok-clause-adds
returns-in-Ok-clause-adds g c =
    rw (← c.self.view_is)
    (λ entries. hangs_up _ entries c.args.conn _ c.drop_conn.new.self (state_of g.L.Link c.hang_up.new.self) _ c.in-Ok.ensures.tells (sym c.closing.ensures.exact ∙ c.if-not-closing.false) c.drop_conn.ensures.exact)

-- there was no memory
pub returns-in-Err-clause-adds : goal.returns-in-Err-clause-adds
returns-in-Err-clause-adds g c = rw (← c.self.view_is) (λ entries. not_hung_up entries c.args.conn _ (state_of g.L.Link c.hang_up.new.self) _ c.in-Err.ensures.tells)

pub returns-in-Ok-clause-settles : goal.returns-in-Ok-clause-settles
returns-in-Ok-clause-settles g c =
    rw (← c.self.view_is)
    (note_settles _ c.drop_conn.new.self _ _ (state_of g.L.Link c.hang_up.new.self) _ (ap (λ (h : HubState). h.bounds) c.drop_conn.ensures.exact) (ap (λ (h : HubState). h.unstored) c.drop_conn.ensures.exact) refl c.in-Ok.ensures.plan c.in-Ok.ensures.faults
    c.in-Ok.ensures.store_faults c.in-Ok.ensures.lost c.in-Ok.ensures.refusals)

pub returns-in-Err-clause-settles : goal.returns-in-Err-clause-settles
returns-in-Err-clause-settles g c =
    rw (← c.self.view_is)
    (note_settles _ _ _ _ (state_of g.L.Link c.hang_up.new.self) _ refl refl refl c.in-Err.ensures.plan c.in-Err.ensures.faults c.in-Err.ensures.store_faults c.in-Err.ensures.lost c.in-Err.ensures.refusals)

pub returns-in-Err-clause-cause : goal.returns-in-Err-clause-cause
returns-in-Err-clause-cause g c = rw (← c.self.view_is) (NoteRefusal-starved _ _ _ _ c.in-Err.ensures.refusals)
