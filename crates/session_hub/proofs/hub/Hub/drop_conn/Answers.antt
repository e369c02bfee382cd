use Rattle.session_hub.proofs.hub.FollowingLemmas.{follows_hung_up}
use Rattle.session_hub.proofs.hub.Hub.drop_conn.Goals as goal

pub returns-clause-run : goal.returns-clause-run
returns-clause-run c = follows_hung_up c.args.conn c.args.self.now c.forget.new.self c.forget.ensures
