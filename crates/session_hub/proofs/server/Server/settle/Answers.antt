use Rattle.session_hub.proofs.serving.AddingLemmas.{adds_after, wants_after}
use Rattle.session_hub.proofs.serving.KeepingLemmas.{settles_then}
use Rattle.session_hub.proofs.serving.ServingLemmas.{sent_is}
use Rattle.session_hub.proofs.server.Server.settle.Goals as goal

-- all of its queue was sent
pub returns-in-Ok-All-clause-adds : goal.returns-in-Ok-All-clause-adds
returns-in-Ok-All-clause-adds g c = λ entries.
    adds_after _ _ _ _ _ _ _ _ c.in-Ok-All.ensures.settles.serves.stays.plan (sent_is entries c.args.conn c.args.self.now c.send_queue.new.self _ _ c.in-Ok-All.field-0-is (c.in-Ok-All.ensures.adds entries)) (c.finish.ensures.adds entries)

-- it takes no more now
pub returns-in-Ok-Later-clause-adds : goal.returns-in-Ok-Later-clause-adds
returns-in-Ok-Later-clause-adds g c = λ entries.
    adds_after _ _ _ _ _ _ _ _ c.in-Ok-Later.ensures.settles.serves.stays.plan (sent_is entries c.args.conn c.args.self.now c.send_queue.new.self _ _ c.in-Ok-Later.field-0-is (c.in-Ok-Later.ensures.adds entries)) (c.hold_back.ensures.adds entries)

-- it was found lost
pub returns-in-Ok-Gone-clause-adds : goal.returns-in-Ok-Gone-clause-adds
returns-in-Ok-Gone-clause-adds g c = λ entries.
    adds_after _ _ _ _ _ _ _ _ c.in-Ok-Gone.ensures.settles.serves.stays.plan (sent_is entries c.args.conn c.args.self.now c.send_queue.new.self _ _ c.in-Ok-Gone.field-0-is (c.in-Ok-Gone.ensures.adds entries)) (c.drop_lost.ensures.adds entries)

pub returns-in-Ok-All-clause-settles : goal.returns-in-Ok-All-clause-settles
returns-in-Ok-All-clause-settles g c = settles_then c.in-Ok-All.ensures.settles c.finish.ensures.settles

pub returns-in-Ok-Later-clause-settles : goal.returns-in-Ok-Later-clause-settles
returns-in-Ok-Later-clause-settles g c = settles_then c.in-Ok-Later.ensures.settles c.hold_back.ensures.settles

pub returns-in-Ok-Gone-clause-settles : goal.returns-in-Ok-Gone-clause-settles
returns-in-Ok-Gone-clause-settles g c = settles_then c.in-Ok-Gone.ensures.settles c.drop_lost.ensures.settles

-- a want of memory is one of the link
pub returns-in-Ok-All-clause-cause : goal.returns-in-Ok-All-clause-cause
returns-in-Ok-All-clause-cause g c = wants_after _ _ c.in-Ok-All.ensures.settles.serves.stays.refusals c.finish.ensures.cause

pub returns-in-Ok-Later-clause-cause : goal.returns-in-Ok-Later-clause-cause
returns-in-Ok-Later-clause-cause g c = wants_after _ _ c.in-Ok-Later.ensures.settles.serves.stays.refusals c.hold_back.ensures.cause

pub returns-in-Ok-Gone-clause-cause : goal.returns-in-Ok-Gone-clause-cause
returns-in-Ok-Gone-clause-cause g c = wants_after _ _ c.in-Ok-Gone.ensures.settles.serves.stays.refusals c.drop_lost.ensures.cause
