use Rattle.std.proofs.Common.{refl, ap, sym, ◌∙◌, subst, ◌≢◌, []}
use Rattle.session_model.proofs.wire_io_proofs.Theorems.{LinkCause-given}
use Rattle.session_hub.specs.hub.Hubs.{HubState}
use Rattle.session_hub.specs.serve.Servers.{ServerState, state_of}
use Rattle.session_hub.proofs.serving.AddingLemmas.{adds_nothing}
use Rattle.session_hub.proofs.serving.ServingLemmas.{emptied, some_queued}
use Rattle.session_hub.proofs.block.StoreLemmas.{stores, not_stored, store_cause, store_stays}
use Rattle.session_hub.proofs.server.Server.store_changes.Goals as goal

-- nothing is to be stored
pub returns-then-is_empty-clause-adds : goal.returns-then-is_empty-clause-adds
returns-then-is_empty-clause-adds g c = rw (← c.self.view_is) (λ entries. adds_nothing _ _ _ _ _ refl (λ _ holds. holds))

pub returns-then-is_empty-clause-stored : goal.returns-then-is_empty-clause-stored
returns-then-is_empty-clause-stored g c = sym (ap (λ (server : ServerState). server.hub.unstored) c.self.view_is) ∙ sym c.unstored-unstored.ensures ∙ emptied c.unstored-unstored.result.now (sym c.if-is_empty.true ∙ c.is_empty.ensures)

-- it is stored
pub returns-in-Ok-clause-adds : goal.returns-in-Ok-clause-adds
returns-in-Ok-clause-adds g c =
    λ entries. stores entries _ _ c.stored.new.self (state_of g.L.Link c.store.new.self) _ _ c.self.view_is c.in-Ok.ensures.tells c.unstored-unstored.ensures c.stored.ensures

pub returns-in-Ok-clause-cause : goal.returns-in-Ok-clause-cause
returns-in-Ok-clause-cause g c = rw (← c.self.view_is) (LinkCause-given _ _ _ _ c.in-Ok.ensures.cause)

pub returns-in-Ok-clause-stays : goal.returns-in-Ok-clause-stays
returns-in-Ok-clause-stays g c =
    rw (← c.self.view_is)
    (store_stays _ c.stored.new.self (state_of g.L.Link c.store.new.self) _ (ap (λ (h : HubState). h.bounds) c.stored.ensures) c.in-Ok.ensures.plan c.in-Ok.ensures.faults c.in-Ok.ensures.lost c.in-Ok.ensures.refusals)

-- the link failed, or had no memory
pub returns-in-Err-clause-adds : goal.returns-in-Err-clause-adds
returns-in-Err-clause-adds g c = λ entries. not_stored entries _ _ (state_of g.L.Link c.store.new.self) _ _ c.self.view_is c.in-Err.ensures.tells

pub returns-in-Err-clause-cause : goal.returns-in-Err-clause-cause
returns-in-Err-clause-cause g c =
    store_cause (λ server. server.hub.unstored ≢ []) _ _ (state_of g.L.Link c.store.new.self) _ c.self.view_is
    (subst (λ xs. xs ≢ []) c.unstored-unstored.ensures (some_queued c.unstored-unstored.result.now (sym c.if-is_empty.false ∙ c.is_empty.ensures))) c.in-Err.ensures.cause c.in-Err.ensures.refusals

pub returns-in-Err-clause-stays : goal.returns-in-Err-clause-stays
returns-in-Err-clause-stays g c = rw (← c.self.view_is) (store_stays _ _ (state_of g.L.Link c.store.new.self) _ refl c.in-Err.ensures.plan c.in-Err.ensures.faults c.in-Err.ensures.lost c.in-Err.ensures.refusals)
