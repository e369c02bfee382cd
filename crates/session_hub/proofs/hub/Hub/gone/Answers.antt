use Rattle.session_hub.proofs.hub.FollowingLemmas.{follows_gone}
use Rattle.session_hub.proofs.hub.Hub.gone.Goals as goal

pub returns-clause-run : goal.returns-clause-run
returns-clause-run c = follows_gone c.args.conn c.args.self.now c.forget.new.self c.forget.ensures
