use Rattle.std.proofs.Common.{◌≡◌, length, arith, ap, ◌∙◌}
use Rattle.std.proofs.lemmas.Grind.{common_steps}
use Rattle.session_hub.specs.hub.Hubs.{HubState}
use Rattle.session_hub.proofs.hub.FollowingLemmas.{counts_held}
use Rattle.session_hub.proofs.hub.Hub.count.Goals as goal

pub returns-clause-run : goal.returns-clause-run
returns-clause-run c =
    let all : c.len.result ≡ length c.self.inside.connections.items = grind (arith, common_steps) in
    counts_held c.args.self.now c.len.result (all ∙ ap (λ (h : HubState). length h.kept) c.self.view_is)
