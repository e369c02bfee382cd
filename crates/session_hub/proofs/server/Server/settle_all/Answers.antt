use Rattle.std.proofs.Common.{[], ap, refl, ◌∙◌}
use Rattle.session_hub.specs.serve.Servers.{ServerState}
use Rattle.session_hub.proofs.serving.AddingLemmas.{adds_nothing, adds_after, rose_after}
use Rattle.session_hub.proofs.serving.KeepingLemmas.{serves_none, serves_then, due_serves}
use Rattle.session_hub.proofs.serving.ServingLemmas.{next_due, none_due}
use Rattle.session_hub.proofs.server.Server.settle_all.Goals as goal

-- nothing was done yet
pub settling-init : goal.settling-init
settling-init g c = record { adds = λ entries. adds_nothing _ _ _ _ _ refl (λ _ holds. holds); serves = serves_none _ }

-- one more is settled
pub settling-preserved : goal.settling-preserved
settling-preserved g c =
    record {
      adds = λ entries.
          adds_after _ _ _ _ _ _ _ _ (ap (λ (server : ServerState). server.link.plan) c.self.view_is ∙ c.settling.invariant.serves.stays.plan)
          (next_due entries c.in-Some.conn _ c.settling.self _ _ _ _ _ c.self.view_is c.in-Some.ensures.due.0 c.in-Some.ensures.on_hold (c.settling.invariant.adds entries)) (c.in-Ok.ensures.adds entries);
      serves = serves_then c.settling.invariant.serves (serves_then (due_serves _ c.settling.self _ _ c.self.view_is) c.in-Ok.ensures.settles.serves);
    }

-- it is due where all changes are stored
pub settle-requires : goal.settle-requires
settle-requires g c = ap (λ (server : ServerState). server.hub.unstored) c.self.view_is ∙ c.settling.invariant.serves.unstored ∙ c.requires

-- there was no memory
pub returns-in-Err-clause-adds : goal.returns-in-Err-clause-adds
returns-in-Err-clause-adds g c = λ entries.
    adds_after _ _ _ _ _ _ _ _ (ap (λ (server : ServerState). server.link.plan) c.self.view_is ∙ c.settling.invariant.serves.stays.plan)
    (next_due entries c.in-Some.conn _ c.settling.self _ _ _ _ _ c.self.view_is c.in-Some.ensures.due.0 c.in-Some.ensures.on_hold (c.settling.invariant.adds entries)) (c.in-Err.ensures.adds entries)

pub returns-in-Err-clause-serves : goal.returns-in-Err-clause-serves
returns-in-Err-clause-serves g c = serves_then c.settling.invariant.serves (serves_then (due_serves _ c.settling.self _ _ c.self.view_is) c.in-Err.ensures.settles.serves)

pub returns-in-Err-clause-cause : goal.returns-in-Err-clause-cause
returns-in-Err-clause-cause g c = rose_after (serves_then c.settling.invariant.serves (due_serves _ c.settling.self [] [] c.self.view_is)).stays.refusals c.in-Err.ensures.cause

-- nobody is due
pub returns-clause-adds : goal.returns-clause-adds
returns-clause-adds g c = λ entries. none_due entries _ c.settling.self [] _ _ _ _ c.self.view_is c.in_default.ensures.due.0 c.in_default.ensures.on_hold (c.settling.invariant.adds entries)

pub returns-clause-serves : goal.returns-clause-serves
returns-clause-serves g c = serves_then c.settling.invariant.serves (due_serves _ c.settling.self _ _ c.self.view_is)
