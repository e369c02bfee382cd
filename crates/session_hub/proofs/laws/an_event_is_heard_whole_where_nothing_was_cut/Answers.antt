use Rattle.session_hub.proofs.laws.WholeEventLemmas.{heard_whole}
use Rattle.session_hub.proofs.laws.an_event_is_heard_whole_where_nothing_was_cut.Goals as goal

pub returns : goal.returns
returns c = record { exact = heard_whole }
