use Rattle.std.proofs.Common.{◌≡◌, true, refl, sym, ◌∙◌, subst}
use Rattle.session_model.specs.Keeping.{is_listed}
use Rattle.session_hub.specs.serve.Servers.{ServerState, state_of}
use Rattle.session_hub.proofs.serving.KeepingLemmas.{note_wants, note_settles}
use Rattle.session_hub.proofs.serving.ServingLemmas.{stays_held, holds_back}
use Rattle.session_hub.proofs.server.Server.hold_back.Goals as goal

-- it is on hold already
pub returns-then-is_on_hold-clause-adds : goal.returns-then-is_on_hold-clause-adds
returns-then-is_on_hold-clause-adds g c = λ entries. stays_held entries c.args.conn c.args.self.now
    (subst (λ (server : ServerState). is_listed c.args.conn server.on_hold ≡ true) c.self.view_is (sym c.is_on_hold.ensures ∙ c.if-is_on_hold.true))

-- it is put on hold, for which there is a place, or there was no memory
pub returns-clause-adds : goal.returns-clause-adds
returns-clause-adds g c =
    λ entries. holds_back entries c.args.conn _ _ _ _ (state_of g.L.Link c.hold-2.new.self) c.hold-2.result c.self.view_is c.hold-2.ensures.tells (sym c.is_on_hold.ensures ∙ c.if-is_on_hold.false) c.self.inside.waiting.once c.hold.ensures.due c.hold.ensures.held

-- it wasn't before
pub hold-requires : goal.hold-requires
hold-requires g c = sym c.is_on_hold.ensures ∙ c.if-is_on_hold.false

pub returns-clause-settles : goal.returns-clause-settles
returns-clause-settles g c =
    rw (← c.self.view_is)
    (note_settles _ _ _ _ (state_of g.L.Link c.hold-2.new.self) c.hold-2.result refl refl c.hold.ensures.due c.hold-2.ensures.plan c.hold-2.ensures.faults c.hold-2.ensures.store_faults c.hold-2.ensures.lost c.hold-2.ensures.refusals)

pub returns-clause-cause : goal.returns-clause-cause
returns-clause-cause g c = rw (← c.self.view_is) (note_wants _ _ c.hold-2.result c.hold-2.ensures.refusals)
