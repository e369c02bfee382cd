use Rattle.std.proofs.Common.{refl, ap}
use Rattle.session_hub.specs.hub.Hubs.{HubState}
use Rattle.session_hub.specs.serve.Servers.{state_of}
use Rattle.session_hub.proofs.serving.KeepingLemmas.{note_serves}
use Rattle.session_hub.proofs.block.BlockLemmas.{covers_is, turned_goes, not_turned}
use Rattle.session_hub.proofs.server.Server.turn_away.Goals as goal

-- it is hung up
pub returns-in-Ok-clause-adds : goal.returns-in-Ok-clause-adds
returns-in-Ok-clause-adds g c =
    rw (← c.self.view_is)
    (λ entries. turned_goes _ entries c.args.conn _ c.drop_conn.new.self _ _ (state_of g.L.Link c.hang_up.new.self) _ c.in-Ok.ensures.tells c.drop_conn.ensures.exact c.begin.ensures.on_hold (covers_is _ _ c.begin.ensures.due))

-- there was no memory
pub returns-in-Err-clause-adds : goal.returns-in-Err-clause-adds
returns-in-Err-clause-adds g c = rw (← c.self.view_is) (λ entries. not_turned entries c.args.conn _ (state_of g.L.Link c.hang_up.new.self) _ c.in-Err.ensures.tells)

pub returns-in-Ok-clause-serves : goal.returns-in-Ok-clause-serves
returns-in-Ok-clause-serves g c =
    rw (← c.self.view_is)
    (note_serves _ c.drop_conn.new.self _ _ (state_of g.L.Link c.hang_up.new.self) _ (ap (λ (h : HubState). h.bounds) c.drop_conn.ensures.exact) (ap (λ (h : HubState). h.unstored) c.drop_conn.ensures.exact) c.in-Ok.ensures.plan c.in-Ok.ensures.faults
    c.in-Ok.ensures.store_faults c.in-Ok.ensures.lost c.in-Ok.ensures.refusals)

pub returns-in-Err-clause-serves : goal.returns-in-Err-clause-serves
returns-in-Err-clause-serves g c =
    rw (← c.self.view_is)
    (note_serves _ _ _ _ (state_of g.L.Link c.hang_up.new.self) _ refl refl c.in-Err.ensures.plan c.in-Err.ensures.faults c.in-Err.ensures.store_faults c.in-Err.ensures.lost c.in-Err.ensures.refusals)
