use Rattle.std.proofs.Common.{ap, ◌∙◌, option_map}
use Rattle.session_model.specs.Kept.{Kept, kept_of}
use Rattle.session_hub.specs.Parties.{Requester}
use Rattle.session_hub.specs.hub.Hubs.{HubState}
use Rattle.session_hub.proofs.hub.FollowingLemmas.{requests_as}
use Rattle.session_hub.proofs.hub.Hub.requester.Goals as goal

pub returns-clause-run : goal.returns-clause-run
returns-clause-run c =
    requests_as c.args.conn c.args.self.now (option_map (λ who. who.now) c.requester_at.result)
    (c.requester_at.ensures ∙ ap (λ ks. option_map (λ (k : Kept Requester). k.who) (kept_of c.args.conn ks)) c.deref.ensures.value
    ∙ ap (λ (h : HubState). option_map (λ (k : Kept Requester). k.who) (kept_of c.args.conn h.kept)) c.self.view_is)
