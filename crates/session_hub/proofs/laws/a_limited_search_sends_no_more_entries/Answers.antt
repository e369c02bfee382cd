use Rattle.session_hub.proofs.laws.LimitLemmas.{limited_sends}
use Rattle.session_hub.proofs.laws.a_limited_search_sends_no_more_entries.Goals as goal

pub returns : goal.returns
returns c = record { exact = limited_sends }
