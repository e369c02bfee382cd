use Rattle.std.proofs.Common.{◌∙◌}
use Rattle.session_hub.proofs.serving.AddingLemmas.{adds_after, rose_after}
use Rattle.session_hub.proofs.serving.KeepingLemmas.{stays_then}
use Rattle.session_hub.proofs.server.Server.end_block.Goals as goal

-- all is stored, and whoever is due is served
pub returns-in-Ok-settle_all-clause-adds : goal.returns-in-Ok-settle_all-clause-adds
returns-in-Ok-settle_all-clause-adds g c = λ entries. adds_after _ _ _ _ _ _ _ _ c.in-Ok.ensures.stays.plan (c.in-Ok.ensures.adds entries) (c.in-Ok-settle_all.ensures.adds entries)

pub returns-in-Ok-settle_all-clause-stays : goal.returns-in-Ok-settle_all-clause-stays
returns-in-Ok-settle_all-clause-stays g c = stays_then c.in-Ok.ensures.stays c.in-Ok-settle_all.ensures.serves.stays

-- there was no memory to serve them
pub returns-in-Err-settle_all-clause-adds : goal.returns-in-Err-settle_all-clause-adds
returns-in-Err-settle_all-clause-adds g c = λ entries. adds_after _ _ _ _ _ _ _ _ c.in-Ok.ensures.stays.plan (c.in-Ok.ensures.adds entries) (c.in-Err-settle_all.ensures.adds entries)

pub returns-in-Err-settle_all-clause-cause : goal.returns-in-Err-settle_all-clause-cause
returns-in-Err-settle_all-clause-cause g c = (c.in-Err-settle_all.ensures.serves.store_faults ∙ c.in-Ok.ensures.cause, rose_after c.in-Ok.ensures.stays.refusals c.in-Err-settle_all.ensures.cause)

pub returns-in-Err-settle_all-clause-stays : goal.returns-in-Err-settle_all-clause-stays
returns-in-Err-settle_all-clause-stays g c = stays_then c.in-Ok.ensures.stays c.in-Err-settle_all.ensures.serves.stays
