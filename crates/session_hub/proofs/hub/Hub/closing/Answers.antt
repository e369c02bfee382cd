use Rattle.std.proofs.Common.{ap, ◌∙◌}
use Rattle.session_model.specs.Kept.{closing_of}
use Rattle.session_hub.specs.hub.Hubs.{HubState}
use Rattle.session_hub.proofs.hub.FollowingLemmas.{closes_with}
use Rattle.session_hub.proofs.hub.Hub.closing.Goals as goal

pub returns-clause-run : goal.returns-clause-run
returns-clause-run c = closes_with c.args.conn c.args.self.now c.closing_at.result (c.closing_at.ensures ∙ ap (closing_of c.args.conn) c.deref.ensures.value ∙ ap (λ (h : HubState). closing_of c.args.conn h.kept) c.self.view_is)
