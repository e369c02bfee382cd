use Rattle.std.proofs.Common.{◌≡◌, length, refl, arith}
use Rattle.dir_tree.specs.tree.Numbered.{entries_of}
use Rattle.session_hub.specs.declared.event.Event.TheVariants as event
use Rattle.session_hub.proofs.serving.AddingLemmas.{adds_after}
use Rattle.session_hub.proofs.serving.KeepingLemmas.{hears_then}
use Rattle.session_hub.proofs.block.BlockLemmas.{opened_goes, opened_starved, turns_away, hears_unkept}
use Rattle.session_hub.proofs.server.Server.greet.Goals as goal

-- there was no memory to hold the connection
pub returns-in-Err-clause-adds : goal.returns-in-Err-clause-adds
returns-in-Err-clause-adds g c = rw (← c.self.view_is) (λ entries. opened_starved entries c.args.conn _ c.hear.new.self (entries_of (g.D.Dir.rows c.hear.new.dir)) c.in-Err.ensures.kept c.hear.ensures.bounds)

-- it is held
pub returns-then-has_room-clause-adds : goal.returns-then-has_room-clause-adds
returns-then-has_room-clause-adds g c =
    rw (← c.self.view_is)
    (λ entries. opened_goes entries c.args.conn _ c.hear.new.self (entries_of (g.D.Dir.rows c.hear.new.dir)) _ _ c.in-Ok.ensures.exact c.hear.ensures.bounds
    (let all : c.count-has_room.result ≡ length c.self.inside.hub.kept = c.count-has_room.ensures.exact in omega arith) c.begin_with.ensures.on_hold c.begin_with.ensures.covers)

pub returns-then-has_room-clause-hears : goal.returns-then-has_room-clause-hears
returns-then-has_room-clause-hears g c =
    rw (← c.self.view_is) (hears_unkept (event.Opened c.args.conn) _ c.hear.new.self (entries_of (g.D.Dir.rows c.hear.new.dir)) _ _ c.in-Ok.ensures.exact c.hear.ensures.bounds)

-- it is hung up
pub returns-else-has_room-clause-adds : goal.returns-else-has_room-clause-adds
returns-else-has_room-clause-adds g c =
    rw (← c.self.view_is)
    (λ entries. adds_after _ _ _ _ _ _ _ _ refl
    (turns_away entries c.args.conn _ c.hear.new.self (entries_of (g.D.Dir.rows c.hear.new.dir)) c.in-Ok.ensures.exact c.hear.ensures.bounds
    (let all : c.count-has_room.result ≡ length c.self.inside.hub.kept = c.count-has_room.ensures.exact in omega arith))
    (c.turn_away.ensures.adds entries))

pub returns-else-has_room-clause-hears : goal.returns-else-has_room-clause-hears
returns-else-has_room-clause-hears g c =
    rw (← c.self.view_is)
    (hears_then (hears_unkept (event.Opened c.args.conn) _ c.hear.new.self (entries_of (g.D.Dir.rows c.hear.new.dir)) _ _ c.in-Ok.ensures.exact c.hear.ensures.bounds) c.turn_away.ensures.serves)
