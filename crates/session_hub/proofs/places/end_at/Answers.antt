use Rattle.std.proofs.Common.{sym, ap, ◌∙◌, slice_set}
use Rattle.session_model.specs.Kept.{closed}
use Rattle.session_hub.proofs.places.PlaceLemmas.{changed_at, changed_nowhere}
use Rattle.session_hub.proofs.places.end_at.Goals as goal

-- the connection is there
pub returns-in-Some : goal.returns-in-Some
returns-in-Some c =
    ap (λ k. slice_set c.args.connections.now c.in-Some.at k) (c.end.ensures ∙ ap closed (sym c.index-connections-at.is))
    ∙ sym (changed_at c.args.number c.in-Some.at closed c.args.connections.now c.index-connections-at.result c.in-Some.ensures c.index-connections-at.is)

-- it isn't
pub returns-in-None : goal.returns-in-None
returns-in-None c = sym (changed_nowhere c.args.number closed c.args.connections.now c.in-None.ensures)
