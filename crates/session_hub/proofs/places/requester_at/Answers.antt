use Rattle.std.proofs.Common.{ap, sym, ◌∙◌, option_map, Some}
use Rattle.session_model.specs.Kept.{Kept}
use Rattle.session_hub.specs.Parties.{Requester}
use Rattle.session_hub.proofs.places.PlaceLemmas.{kept_at_is}
use Rattle.session_hub.proofs.places.requester_at.Goals as goal

-- the connection is there
pub returns-in-Some : goal.returns-in-Some
returns-in-Some c =
    ap Some c.requester.ensures
    ∙ sym (ap (option_map (λ (k : Kept Requester). k.who)) (kept_at_is c.args.number c.in-Some.at c.args.connections.now c.index-connections-at.result c.in-Some.ensures c.index-connections-at.is))

-- it isn't
pub returns-in-None : goal.returns-in-None
returns-in-None c = sym (ap (option_map (λ (k : Kept Requester). k.who)) c.in-None.ensures)
