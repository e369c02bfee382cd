use Rattle.std.proofs.Common.{◌≡◌, true, refl, sym, ◌∙◌}
use Rattle.session_hub.specs.serve.Servers.{state_of}
use Rattle.session_hub.proofs.block.StoreLemmas.{store_cause, store_stays}
use Rattle.session_hub.proofs.server.Server.sync_changes.Goals as goal

-- the link was asked
pub returns-then-keeps-clause-cause : goal.returns-then-keeps-clause-cause
returns-then-keeps-clause-cause g c = store_cause (λ server. server.hub.bounds.terms.keeps ≡ true) _ _ (state_of g.L.Link c.sync_store.new.self) c.sync_store.result c.self.view_is (sym c.keeps.ensures ∙ c.if-keeps.true) c.sync_store.ensures.cause c.sync_store.ensures.refusals

pub returns-then-keeps-clause-stays : goal.returns-then-keeps-clause-stays
returns-then-keeps-clause-stays g c =
    rw (← c.self.view_is) (store_stays _ _ (state_of g.L.Link c.sync_store.new.self) c.sync_store.result refl c.sync_store.ensures.plan c.sync_store.ensures.faults c.sync_store.ensures.lost c.sync_store.ensures.refusals)
