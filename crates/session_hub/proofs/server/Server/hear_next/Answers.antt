use Rattle.std.proofs.Common.{sym, ◌∙◌}
use Rattle.session_model.proofs.wire_io_proofs.Theorems.{LinkCause-starved, RefusalCause-starved}
use Rattle.session_hub.specs.declared.ended.Ended.TheVariants as ended
use Rattle.session_hub.specs.serve.Servers.{state_of}
use Rattle.session_hub.proofs.serve.CauseLemmas.{ends_starved, ends_unstored}
use Rattle.session_hub.proofs.serve.LoopLemmas.{unfinished_starved, unfinished_unstored}
use Rattle.session_hub.proofs.serve.StarveLemmas.{unstored_apart}
use Rattle.session_hub.proofs.serve.GivenLemmas.{gives, gives_none}
use Rattle.session_hub.proofs.serve.TurnLemmas.{turn_served, turn_cut, turn_stopped, turn_failed, turn_unfinished}
use Rattle.session_hub.proofs.server.Server.hear_next.Goals as goal

-- the link failed
pub returns-in-Err-Failed-clause-some : goal.returns-in-Err-Failed-clause-some
returns-in-Err-Failed-clause-some g c =
    rw (← c.self.view_is)
    (turn_failed _ (state_of g.L.Link c.next.new.self) _ (gives_none _ _ c.next.new.buf _ c.in-Err-Failed.ensures.tells c.in-Err-Failed.ensures.plays c.in-Err-Failed.ensures.lost c.in-Err-Failed.ensures.refusals)
    (rw c.in-Err-Failed.field-0-is at c.in-Err-Failed.ensures.cause) c.in-Err-Failed.ensures.store_faults c.end_of.ensures)

-- the link had no memory for an event
pub returns-in-Err-NoMemory-clause-some : goal.returns-in-Err-NoMemory-clause-some
returns-in-Err-NoMemory-clause-some g c =
    rw (← c.self.view_is)
    (turn_unfinished _ (state_of g.L.Link c.next.new.self) ended.NoMemory unfinished_starved
    (gives_none _ _ c.next.new.buf _ c.in-Err-NoMemory.ensures.tells c.in-Err-NoMemory.ensures.plays c.in-Err-NoMemory.ensures.lost c.in-Err-NoMemory.ensures.refusals)
    (ends_starved _ _ _ _ _ _ (LinkCause-starved _ _ _ _ (rw c.in-Err-NoMemory.field-0-is at c.in-Err-NoMemory.ensures.cause)) c.in-Err-NoMemory.ensures.store_faults)
    (λ starved. RefusalCause-starved _ _ _ (rw c.in-Err-NoMemory.field-0-is at c.in-Err-NoMemory.ensures.refusals)))

-- what changed could not be stored
pub returns-in-Err-Failed-serve_event-clause-some : goal.returns-in-Err-Failed-serve_event-clause-some
returns-in-Err-Failed-serve_event-clause-some g c =
    rw (← c.self.view_is)
    (turn_cut _ c.serve_event.new.self (state_of g.L.Link c.next.new.self) c.next.new.buf c.in-Ok.heard ended.StoreFault unfinished_unstored
    (gives _ _ _ _ (c.next.auto.buf ∙ c.requires.long) c.in-Ok.ensures.tells c.in-Ok.ensures.plays c.in-Ok.ensures.cause c.in-Ok.ensures.store_faults c.in-Ok.ensures.lost c.in-Ok.ensures.refusals)
    c.in-Err-Failed-serve_event.ensures.adds c.in-Err-Failed-serve_event.ensures.stays
    (ends_unstored _ _ _ _ _ _ (rw c.in-Err-Failed-serve_event.field-0-is at c.in-Err-Failed-serve_event.ensures.cause) c.in-Err-Failed-serve_event.ensures.stays.faults) (λ starved. absurd (unstored_apart starved)))

-- there was no memory in the event's block
pub returns-in-Err-NoMemory-serve_event-clause-some : goal.returns-in-Err-NoMemory-serve_event-clause-some
returns-in-Err-NoMemory-serve_event-clause-some g c =
    rw (← c.self.view_is)
    (turn_cut _ c.serve_event.new.self (state_of g.L.Link c.next.new.self) c.next.new.buf c.in-Ok.heard ended.NoMemory unfinished_starved
    (gives _ _ _ _ (c.next.auto.buf ∙ c.requires.long) c.in-Ok.ensures.tells c.in-Ok.ensures.plays c.in-Ok.ensures.cause c.in-Ok.ensures.store_faults c.in-Ok.ensures.lost c.in-Ok.ensures.refusals)
    c.in-Err-NoMemory-serve_event.ensures.adds c.in-Err-NoMemory-serve_event.ensures.stays
    (ends_starved _ _ _ _ _ _ c.in-Err-NoMemory-serve_event.ensures.stays.faults (rw c.in-Err-NoMemory-serve_event.field-0-is at c.in-Err-NoMemory-serve_event.ensures.cause).0)
    (λ starved. (rw c.in-Err-NoMemory-serve_event.field-0-is at c.in-Err-NoMemory-serve_event.ensures.cause).1))

-- the event is Stop
pub returns-then-is_stop-clause-some : goal.returns-then-is_stop-clause-some
returns-then-is_stop-clause-some g c =
    rw (← c.self.view_is)
    (turn_stopped _ c.serve_event.new.self (state_of g.L.Link c.next.new.self) c.next.new.buf c.in-Ok.heard _
    (gives _ _ _ _ (c.next.auto.buf ∙ c.requires.long) c.in-Ok.ensures.tells c.in-Ok.ensures.plays c.in-Ok.ensures.cause c.in-Ok.ensures.store_faults c.in-Ok.ensures.lost c.in-Ok.ensures.refusals) (sym c.is_stop.ensures ∙ c.if-is_stop.true)
    c.in-Ok-serve_event.ensures.adds c.in-Ok-serve_event.ensures.stays c.in-Ok-serve_event.ensures.cause c.end_of-then-is_stop.ensures)

-- the loop goes on
pub returns-else-is_stop-clause-none : goal.returns-else-is_stop-clause-none
returns-else-is_stop-clause-none g c =
    rw (← c.self.view_is)
    (turn_served _ c.serve_event.new.self (state_of g.L.Link c.next.new.self) c.next.new.buf c.in-Ok.heard
    (gives _ _ _ _ (c.next.auto.buf ∙ c.requires.long) c.in-Ok.ensures.tells c.in-Ok.ensures.plays c.in-Ok.ensures.cause c.in-Ok.ensures.store_faults c.in-Ok.ensures.lost c.in-Ok.ensures.refusals) (sym c.is_stop.ensures ∙ c.if-is_stop.false)
    c.in-Ok-serve_event.ensures.adds c.in-Ok-serve_event.ensures.stays c.in-Ok-serve_event.ensures.cause c.in-Ok-serve_event.ensures.stored)
