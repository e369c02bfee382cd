use Rattle.std.proofs.Common.{◌∙◌, ap}
use Rattle.script_text.proofs.reading.ConnectionsLemmas.{tracks_next}
use Rattle.script_text.specs.script.Script.{may_follow}
use Rattle.script_text.proofs.reading.Reading.with.Goals as goal

-- the map followed the events, and the new one follows the event too
pub invariant_of-result : goal.invariant_of-result
invariant_of-result c =
    let may = ap (λ before. may_follow before c.args.event) c.self.view_is ∙ c.requires in
    rw c.in_ok-push.ensures.ok (tracks_next c.self.inside.connections c.in_ok-connections.connections c.self.inside.events c.args.event c.self.invariant may c.in_ok-connections.ensures)
