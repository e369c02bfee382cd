use Rattle.std.proofs.Common.{ap₂, false}
use Rattle.session_hub.proofs.hub.FollowingLemmas.{follows_start}
use Rattle.session_hub.proofs.hub.Hub.new.Goals as goal

pub returns-clause-run : goal.returns-clause-run
returns-clause-run c = follows_start c.args.bounds _ (ap₂ (λ ks xs. record { kept = ks; was_cut = false; unstored = xs; bounds = c.args.bounds }) c.in_ok-with_capacity.ensures.items c.new.ensures.items)
