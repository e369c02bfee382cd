use Rattle.std.proofs.Common.{ap, ◌∙◌}
use Rattle.session_model.specs.Kept.{queue_of}
use Rattle.session_hub.specs.hub.Hubs.{HubState}
use Rattle.session_hub.proofs.hub.FollowingLemmas.{queues_reply}
use Rattle.session_hub.proofs.hub.Hub.queue.Goals as goal

pub returns-clause-run : goal.returns-clause-run
returns-clause-run c = queues_reply c.args.conn c.args.self.now c.queue_at.result.now (c.queue_at.ensures ∙ ap (queue_of c.args.conn) c.deref.ensures.value ∙ ap (λ (h : HubState). queue_of c.args.conn h.kept) c.self.view_is)
