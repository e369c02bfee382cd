use Rattle.std.proofs.Common.{◌≤◌, length, sym, ap, ◌∙◌, slice_set}
use Rattle.session_model.specs.Kept.{without_front}
use Rattle.session_hub.proofs.places.PlaceLemmas.{queue_at, changed_at, changed_nowhere}
use Rattle.session_hub.proofs.places.take_off.Goals as goal

-- the connection's queue has so many octets
pub took-requires : goal.took-requires
took-requires c =
    let same = queue_at c.args.number c.in-Some.at c.args.connections.now c.index-connections-at.result c.in-Some.ensures c.index-connections-at.is in
    let long : c.args.count ≤ length c.index-connections-at.result.queue = rw (← same) c.requires.within in
    rw (← c.index-connections-at.is) long

-- the connection is there
pub returns-in-Some : goal.returns-in-Some
returns-in-Some c =
    ap (λ k. slice_set c.args.connections.now c.in-Some.at k) (c.took.ensures ∙ ap (without_front c.args.count) (sym c.index-connections-at.is))
    ∙ sym (changed_at c.args.number c.in-Some.at (without_front c.args.count) c.args.connections.now c.index-connections-at.result c.in-Some.ensures c.index-connections-at.is)

-- it isn't
pub returns-in-None : goal.returns-in-None
returns-in-None c = sym (changed_nowhere c.args.number (without_front c.args.count) c.args.connections.now c.in-None.ensures)
