use Rattle.session_hub.proofs.laws.LimitLemmas.{keeps_asked, limited_none}
use Rattle.session_hub.proofs.laws.a_limit_changes_no_more_than_a_size_limit.Goals as goal

pub returns : goal.returns
returns c = record { kept = keeps_asked; none = limited_none }
