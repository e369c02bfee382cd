use Rattle.std.proofs.Common.{drop, None, refl, ap}
use Rattle.session_hub.specs.Answering.{rules}
use Rattle.session_hub.proofs.connection.HearLemmas.{kept_is}
use Rattle.session_hub.proofs.connection.Connection.new.Goals as goal

-- nothing is unread or queued, and nobody asks
pub returns : goal.returns
unfolding rules
returns c = record { ok = λ terms. kept_is c.args.number _ _ _ _ _ _ _ _ None c.in_ok-rest.ensures.items c.anonymous.ensures (ap (drop 0) c.in_ok-out.ensures.items) refl }
