use Rattle.session_hub.proofs.serving.AddingLemmas.{adds_after, wants_after}
use Rattle.session_hub.proofs.serving.KeepingLemmas.{settles_then}
use Rattle.session_hub.proofs.server.Server.finish.Goals as goal

-- it isn't on hold any more
pub returns-in-Ok-clause-adds : goal.returns-in-Ok-clause-adds
returns-in-Ok-clause-adds g c = λ entries. adds_after _ _ _ _ _ _ _ _ c.in-Ok.ensures.settles.serves.stays.plan (c.in-Ok.ensures.adds entries) (c.hang_up_closing.ensures.adds entries)

pub returns-in-Ok-clause-settles : goal.returns-in-Ok-clause-settles
returns-in-Ok-clause-settles g c = settles_then c.in-Ok.ensures.settles c.hang_up_closing.ensures.settles

-- a want of memory is one of the link
pub returns-in-Ok-clause-cause : goal.returns-in-Ok-clause-cause
returns-in-Ok-clause-cause g c = wants_after _ _ c.in-Ok.ensures.settles.serves.stays.refusals c.hang_up_closing.ensures.cause
