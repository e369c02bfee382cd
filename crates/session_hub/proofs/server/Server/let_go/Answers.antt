use Rattle.std.proofs.Common.{refl, sym, ◌∙◌}
use Rattle.session_model.proofs.wire_io_proofs.Theorems.{NoteRefusal-starved}
use Rattle.session_hub.specs.serve.Servers.{state_of}
use Rattle.session_hub.proofs.serving.KeepingLemmas.{note_settles}
use Rattle.session_hub.proofs.serving.ServingLemmas.{stays_free, lets_go, not_let_go}
use Rattle.session_hub.proofs.server.Server.let_go.Goals as goal

-- it isn't on hold
pub returns-then-not-is_on_hold-clause-adds : goal.returns-then-not-is_on_hold-clause-adds
returns-then-not-is_on_hold-clause-adds g c = rw (← c.self.view_is) (λ entries. stays_free entries c.args.conn _ (sym c.is_on_hold.ensures ∙ c.if-not-is_on_hold.true))

-- it is released
pub returns-in-Ok-clause-adds : goal.returns-in-Ok-clause-adds
returns-in-Ok-clause-adds g c =
    λ entries. lets_go _ entries c.args.conn _ _ _ _ (state_of g.L.Link c.release.new.self) _ c.self.view_is c.in-Ok.ensures.tells c.release-in-Ok.ensures.due c.release-in-Ok.ensures.released

-- there was no memory
pub returns-in-Err-clause-adds : goal.returns-in-Err-clause-adds
returns-in-Err-clause-adds g c = rw (← c.self.view_is) (λ entries. not_let_go entries c.args.conn _ (state_of g.L.Link c.release.new.self) _ _ c.in-Err.ensures.tells)

pub returns-in-Ok-clause-settles : goal.returns-in-Ok-clause-settles
returns-in-Ok-clause-settles g c =
    rw (← c.self.view_is)
    (note_settles _ _ _ _ (state_of g.L.Link c.release.new.self) _ refl refl c.release-in-Ok.ensures.due c.in-Ok.ensures.plan c.in-Ok.ensures.faults c.in-Ok.ensures.store_faults c.in-Ok.ensures.lost c.in-Ok.ensures.refusals)

pub returns-in-Err-clause-settles : goal.returns-in-Err-clause-settles
returns-in-Err-clause-settles g c =
    rw (← c.self.view_is)
    (note_settles _ _ _ _ (state_of g.L.Link c.release.new.self) _ refl refl refl c.in-Err.ensures.plan c.in-Err.ensures.faults c.in-Err.ensures.store_faults c.in-Err.ensures.lost c.in-Err.ensures.refusals)

pub returns-in-Err-clause-cause : goal.returns-in-Err-clause-cause
returns-in-Err-clause-cause g c = rw (← c.self.view_is) (NoteRefusal-starved _ _ _ _ c.in-Err.ensures.refusals)
