use Rattle.std.proofs.Common.{ap, sym, ◌∙◌}
use Rattle.session_hub.specs.hub.Hubs.{unread_of}
use Rattle.session_hub.proofs.places.PlaceLemmas.{kept_at_is}
use Rattle.session_hub.proofs.places.unread_at.Goals as goal

-- the connection is there
pub returns-in-Some : goal.returns-in-Some
returns-in-Some c =
    c.unread.ensures ∙ sym (ap unread_of (kept_at_is c.args.number c.in-Some.at c.args.connections.now c.index-connections-at.result c.in-Some.ensures c.index-connections-at.is))

-- it isn't
pub returns-in-None : goal.returns-in-None
returns-in-None c = sym (ap unread_of c.in-None.ensures)
