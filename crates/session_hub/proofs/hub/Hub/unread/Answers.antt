use Rattle.std.proofs.Common.{ap, ◌∙◌}
use Rattle.session_model.specs.Kept.{kept_of}
use Rattle.session_hub.specs.hub.Hubs.{HubState, unread_of}
use Rattle.session_hub.proofs.hub.FollowingLemmas.{leaves_unread}
use Rattle.session_hub.proofs.hub.Hub.unread.Goals as goal

pub returns-clause-run : goal.returns-clause-run
returns-clause-run c =
    leaves_unread c.args.conn c.args.self.now c.unread_at.result.now
    (c.unread_at.ensures ∙ ap (λ ks. unread_of (kept_of c.args.conn ks)) c.deref.ensures.value
    ∙ ap (λ (h : HubState). unread_of (kept_of c.args.conn h.kept)) c.self.view_is)
