use Rattle.std.proofs.Common.{sym, ◌∙◌}
use Rattle.session_hub.proofs.places.PlaceLemmas.{found_at}
use Rattle.session_hub.proofs.places.place_of.Goals as goal

-- the connection at this place has the number
pub returns-then-number : goal.returns-then-number
returns-then-number c =
    found_at c.args.number c.loop-at.at c.args.connections.now c.index-connections-at.result c.loop-at.invariant c.loop-at-test.true c.index-connections-at.is (sym c.number.ensures ∙ c.if-number.true)
