use Rattle.std.proofs.Common.{refl, subst, sym, ap, ◌∙◌}
use Rattle.session_model.specs.wire_io.declared.journal.Event.TheVariants as event
use Rattle.session_model.specs.wire_io.link.Telling.{event_of}
use Rattle.session_hub.specs.serve.Servers.{IsOpening}
use Rattle.session_hub.proofs.block.BlockLemmas.{covers_is, opens_any, opens_none, as_heard, idle_goes, opens_none-ready, opens_none-idle, opens_none-stop}
use Rattle.session_hub.proofs.server.Server.begin_block.Goals as goal

-- a connection opened
pub returns-in-Opened-clause-adds : goal.returns-in-Opened-clause-adds
unfolding event_of
returns-in-Opened-clause-adds g c = λ entries. as_heard entries _ _ _ _ _ (ap (event_of c.args.buffer.now) c.in-Opened.is) (c.greet.ensures.adds entries)

-- octets came
pub returns-in-Bytes-clause-adds : goal.returns-in-Bytes-clause-adds
unfolding event_of
returns-in-Bytes-clause-adds g c = λ entries.
    as_heard entries _ _ _ _ _ (ap (event_of c.args.buffer.now) c.in-Bytes.is ∙ ap (λ octets. event.Bytes c.in-Bytes.conn octets) (sym c.split_at.ensures.front)) (c.hear_on.ensures.adds entries)

-- the peer sends no more
pub returns-in-Ended-clause-adds : goal.returns-in-Ended-clause-adds
unfolding event_of
returns-in-Ended-clause-adds g c = λ entries. as_heard entries _ _ _ _ _ (ap (event_of c.args.buffer.now) c.in-Ended.is) (c.hear_on-in-Ended.ensures.adds entries)

-- events that are no step of a session
pub returns-in-Ready-clause-adds : goal.returns-in-Ready-clause-adds
unfolding event_of
returns-in-Ready-clause-adds g c =
    rw (← c.self.view_is)
    (λ entries. idle_goes entries (event.Ready c.in-Ready.field-0) _ _ _ _ (ap (event_of c.args.buffer.now) c.in-Ready.is) refl (opens_none-ready c.in-Ready.field-0) c.begin.ensures.on_hold (covers_is _ _ c.begin.ensures.due))

pub returns-in-Idle-clause-adds : goal.returns-in-Idle-clause-adds
unfolding event_of
returns-in-Idle-clause-adds g c =
    rw (← c.self-in-Idle.view_is)
    (λ entries. idle_goes entries event.Idle _ _ _ _ (ap (event_of c.args.buffer.now) c.in-Idle.is) refl opens_none-idle c.begin-in-Idle.ensures.on_hold (covers_is _ _ c.begin-in-Idle.ensures.due))

pub returns-in-Stop-clause-adds : goal.returns-in-Stop-clause-adds
unfolding event_of
returns-in-Stop-clause-adds g c =
    rw (← c.self-in-Stop.view_is)
    (λ entries. idle_goes entries event.Stop _ _ _ _ (ap (event_of c.args.buffer.now) c.in-Stop.is) refl opens_none-stop c.begin-in-Stop.ensures.on_hold (covers_is _ _ c.begin-in-Stop.ensures.due))

-- want of memory comes with a connection that opens alone
pub returns-in-Opened-clause-opens : goal.returns-in-Opened-clause-opens
returns-in-Opened-clause-opens g c = opens_any c.greet.result _ (subst IsOpening (sym c.in-Opened.is) tt)

pub returns-in-Bytes-clause-opens : goal.returns-in-Bytes-clause-opens
returns-in-Bytes-clause-opens g c = opens_none c.hear_on.result _ c.hear_on.ensures.never

pub returns-in-Ended-clause-opens : goal.returns-in-Ended-clause-opens
returns-in-Ended-clause-opens g c = opens_none c.hear_on-in-Ended.result _ c.hear_on-in-Ended.ensures.never
