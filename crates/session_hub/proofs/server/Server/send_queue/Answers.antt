use Rattle.std.proofs.Common.{◌≤◌, length, ap, refl, sym, ◌∙◌, subst}
use Rattle.session_model.proofs.wire_io_proofs.Theorems.{WriteRefusal-starved}
use Rattle.session_hub.specs.hub.Hubs.{HubState}
use Rattle.session_hub.specs.serve.Servers.{state_of}
use Rattle.session_hub.proofs.serving.AddingLemmas.{adds_nothing, adds_as, rose_after}
use Rattle.session_hub.proofs.serving.KeepingLemmas.{settles_none, settles_then, write_settles}
use Rattle.session_hub.proofs.serving.ServingLemmas.{emptied, some_queued, queue_falls, took_goes, later_goes, gone_goes, starved_goes}
use Rattle.session_hub.proofs.server.Server.send_queue.Goals as goal

-- nothing was sent yet
pub sending-init : goal.sending-init
sending-init g c = rw (← c.self.view_is) (record { adds = λ entries. adds_nothing _ _ _ _ _ refl (λ _ holds. holds); settles = settles_none _ })

-- nothing is left
pub returns-then-is_empty-clause-adds : goal.returns-then-is_empty-clause-adds
returns-then-is_empty-clause-adds g c = λ entries.
    adds_as _ _ _ _ _ _ _ (λ _ holds. holds)
    (λ added works. record { due = works; empty = sym c.queue-queue.ensures.exact ∙ emptied c.queue-queue.result.now (sym c.if-is_empty.true ∙ c.is_empty.ensures) })
    (c.sending.invariant.adds entries)

-- octets were taken
pub sending-preserved : goal.sending-preserved
sending-preserved g c =
    record {
      adds = λ entries.
          took_goes entries c.args.conn c.in-Took.count _ _ c.took.new.self (state_of g.L.Link c.write.new.self) c.queue-queue.result.now _ c.sending.invariant.settles (c.sending.invariant.adds entries) c.in-Took.ensures.tells c.queue-queue.ensures.exact (c.sending.invariant.settles.serves.unstored ∙ c.requires)
          (some_queued c.queue-queue.result.now (sym c.if-is_empty.false ∙ c.is_empty.ensures)) c.in-Took.ensures.fits.1 c.took.ensures.exact;
      settles = settles_then c.sending.invariant.settles
          (write_settles _ c.took.new.self (state_of g.L.Link c.write.new.self) _ (ap (λ (h : HubState). h.bounds) c.took.ensures.exact) (ap (λ (h : HubState). h.unstored) c.took.ensures.exact) c.in-Took.ensures.plan c.in-Took.ensures.faults
          c.in-Took.ensures.store_faults c.in-Took.ensures.cause c.in-Took.ensures.refusals);
    }

pub sending-smaller : goal.sending-smaller
sending-smaller g c =
    queue_falls c.args.conn c.in-Took.count c.sending.self-inside.hub c.took.new.self c.took.ensures.exact c.in-Took.ensures.fits.0
    (subst (λ xs. c.in-Took.count ≤ length xs) c.queue-queue.ensures.exact c.in-Took.ensures.fits.1)

-- none were taken now
pub returns-in-Later-clause-adds : goal.returns-in-Later-clause-adds
returns-in-Later-clause-adds g c = λ entries.
    later_goes entries c.args.conn _ _ (state_of g.L.Link c.write.new.self) c.queue-queue.result.now _ c.sending.invariant.settles (c.sending.invariant.adds entries) c.in-Later.ensures.tells c.in-Later.ensures.cause c.queue-queue.ensures.exact
    (some_queued c.queue-queue.result.now (sym c.if-is_empty.false ∙ c.is_empty.ensures))

pub returns-in-Later-clause-settles : goal.returns-in-Later-clause-settles
returns-in-Later-clause-settles g c =
    settles_then c.sending.invariant.settles
    (write_settles _ _ (state_of g.L.Link c.write.new.self) _ refl refl c.in-Later.ensures.plan c.in-Later.ensures.faults c.in-Later.ensures.store_faults c.in-Later.ensures.cause c.in-Later.ensures.refusals)

-- the connection was found lost
pub returns-in-Gone-clause-adds : goal.returns-in-Gone-clause-adds
returns-in-Gone-clause-adds g c = λ entries.
    gone_goes entries c.args.conn _ _ (state_of g.L.Link c.write.new.self) c.queue-queue.result.now _ c.sending.invariant.settles (c.sending.invariant.adds entries) c.in-Gone.ensures.tells c.in-Gone.ensures.cause c.queue-queue.ensures.exact
    (some_queued c.queue-queue.result.now (sym c.if-is_empty.false ∙ c.is_empty.ensures))

pub returns-in-Gone-clause-settles : goal.returns-in-Gone-clause-settles
returns-in-Gone-clause-settles g c =
    settles_then c.sending.invariant.settles
    (write_settles _ _ (state_of g.L.Link c.write.new.self) _ refl refl c.in-Gone.ensures.plan c.in-Gone.ensures.faults c.in-Gone.ensures.store_faults c.in-Gone.ensures.cause c.in-Gone.ensures.refusals)

-- there was no memory
pub returns-in-NoMemory-clause-adds : goal.returns-in-NoMemory-clause-adds
returns-in-NoMemory-clause-adds g c = λ entries.
    starved_goes entries c.args.conn _ _ (state_of g.L.Link c.write.new.self) c.queue-queue.result.now _ c.sending.invariant.settles (c.sending.invariant.adds entries) c.in-NoMemory.ensures.tells

pub returns-in-NoMemory-clause-settles : goal.returns-in-NoMemory-clause-settles
returns-in-NoMemory-clause-settles g c =
    settles_then c.sending.invariant.settles
    (write_settles _ _ (state_of g.L.Link c.write.new.self) _ refl refl c.in-NoMemory.ensures.plan c.in-NoMemory.ensures.faults c.in-NoMemory.ensures.store_faults c.in-NoMemory.ensures.cause c.in-NoMemory.ensures.refusals)

pub returns-in-NoMemory-clause-cause : goal.returns-in-NoMemory-clause-cause
returns-in-NoMemory-clause-cause g c = rose_after c.sending.invariant.settles.serves.stays.refusals (WriteRefusal-starved _ _ c.in-NoMemory.ensures.refusals)
