use Rattle.std.proofs.Common.{length}
use Rattle.session_hub.specs.serve.Servers.{OnlyServes}
use Rattle.session_hub.specs.Adding.{Goes, IsServing}
use Rattle.session_hub.proofs.server.Server.settle_all.Given as goal

-- so many are still due
abbrev pub invariant-settling : goal.invariant-settling
invariant-settling g l =
    record {
      adds : Goes IsServing IsServing l.fn.self l.self;
      serves : OnlyServes l.fn.self l.self;
    }

abbrev pub decreases-settling : goal.decreases-settling
decreases-settling g l = length l.self.due
