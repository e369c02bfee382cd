use Rattle.std.proofs.Common.{inl, inr}
use Rattle.session_hub.proofs.serving.AddingLemmas.{adds_after, rose_after}
use Rattle.session_hub.proofs.serving.KeepingLemmas.{stays_then}
use Rattle.session_hub.proofs.block.StoreLemmas.{keeps_some, cause_from}
use Rattle.session_hub.proofs.server.Server.serve_event.Goals as goal

-- its block is begun and ended
pub returns-in-Ok-clause-adds : goal.returns-in-Ok-clause-adds
returns-in-Ok-clause-adds g c = λ entries. adds_after _ _ _ _ _ _ _ _ c.in-Ok.ensures.hears.stays.plan (c.in-Ok.ensures.adds entries) (c.end_block.ensures.adds entries)

pub returns-in-Ok-clause-cause : goal.returns-in-Ok-clause-cause
returns-in-Ok-clause-cause g c =
    cause_from _ _ _ _ c.args.self.now c.begin_block.new.self c.end_block.new.self c.end_block.result c.in-Ok.ensures.hears.store_faults c.in-Ok.ensures.hears.stays.plan (keeps_some _ _ _ c.requires.stored c.in-Ok.ensures.hears.unkept) (λ refused. inr (rose_after c.in-Ok.ensures.hears.stays.refusals refused))
    c.end_block.ensures.cause

pub returns-in-Ok-clause-stays : goal.returns-in-Ok-clause-stays
returns-in-Ok-clause-stays g c = stays_then c.in-Ok.ensures.hears.stays c.end_block.ensures.stays

-- there was no memory to begin it
pub returns-in-Err-clause-cause : goal.returns-in-Err-clause-cause
returns-in-Err-clause-cause g c = (c.in-Err.ensures.hears.store_faults, inl c.in-Err.ensures.opens)
