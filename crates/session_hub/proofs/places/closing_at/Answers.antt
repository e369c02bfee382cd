use Rattle.std.proofs.Common.{sym, ◌∙◌}
use Rattle.session_hub.proofs.places.PlaceLemmas.{closing_at, closing_nowhere}
use Rattle.session_hub.proofs.places.closing_at.Goals as goal

-- the connection is there
pub returns-in-Some : goal.returns-in-Some
returns-in-Some c = c.is_closing.ensures ∙ sym (closing_at c.args.number c.in-Some.at c.args.connections.now c.index-connections-at.result c.in-Some.ensures c.index-connections-at.is)

-- it isn't
pub returns-in-None : goal.returns-in-None
returns-in-None c = sym (closing_nowhere c.args.number c.args.connections.now c.in-None.ensures)
