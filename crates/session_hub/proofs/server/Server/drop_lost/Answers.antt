use Rattle.std.proofs.Common.{refl, ap}
use Rattle.session_model.proofs.wire_io_proofs.Theorems.{NoteRefusal-starved}
use Rattle.session_hub.specs.hub.Hubs.{HubState}
use Rattle.session_hub.specs.serve.Servers.{state_of}
use Rattle.session_hub.proofs.serving.KeepingLemmas.{note_settles}
use Rattle.session_hub.proofs.serving.ServingLemmas.{drops, not_dropped}
use Rattle.session_hub.proofs.server.Server.drop_lost.Goals as goal

-- it is hung up
pub returns-in-Ok-clause-adds : goal.returns-in-Ok-clause-adds
returns-in-Ok-clause-adds g c =
    λ entries. drops _ entries c.args.conn _ _ c.gone.new.self _ _ (state_of g.L.Link c.hang_up.new.self) _ c.self.view_is c.in-Ok.ensures.tells c.release.ensures.due c.release.ensures.released c.gone.ensures.exact

-- there was no memory
pub returns-in-Err-clause-adds : goal.returns-in-Err-clause-adds
returns-in-Err-clause-adds g c = λ entries. not_dropped entries c.args.conn _ _ c.gone.new.self (state_of g.L.Link c.hang_up.new.self) _ c.self.view_is c.in-Err.ensures.tells c.gone.ensures.exact

pub returns-in-Ok-clause-settles : goal.returns-in-Ok-clause-settles
returns-in-Ok-clause-settles g c =
    rw (← c.self.view_is)
    (note_settles _ c.gone.new.self _ _ (state_of g.L.Link c.hang_up.new.self) _ (ap (λ (h : HubState). h.bounds) c.gone.ensures.exact) (ap (λ (h : HubState). h.unstored) c.gone.ensures.exact) c.release.ensures.due c.in-Ok.ensures.plan c.in-Ok.ensures.faults c.in-Ok.ensures.store_faults
    c.in-Ok.ensures.lost c.in-Ok.ensures.refusals)

pub returns-in-Err-clause-settles : goal.returns-in-Err-clause-settles
returns-in-Err-clause-settles g c =
    rw (← c.self.view_is)
    (note_settles _ c.gone.new.self _ _ (state_of g.L.Link c.hang_up.new.self) _ (ap (λ (h : HubState). h.bounds) c.gone.ensures.exact) (ap (λ (h : HubState). h.unstored) c.gone.ensures.exact) refl c.in-Err.ensures.plan c.in-Err.ensures.faults c.in-Err.ensures.store_faults
    c.in-Err.ensures.lost c.in-Err.ensures.refusals)

pub returns-in-Err-clause-cause : goal.returns-in-Err-clause-cause
returns-in-Err-clause-cause g c = rw (← c.self.view_is) (NoteRefusal-starved _ _ _ _ c.in-Err.ensures.refusals)
