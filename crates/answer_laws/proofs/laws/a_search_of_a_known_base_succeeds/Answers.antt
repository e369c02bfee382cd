-- The law is proved of the definitions.
use Rattle.answer_laws.proofs.laws.SearchLemmas.{search_replies-succeed}
use Rattle.answer_laws.proofs.laws.a_search_of_a_known_base_succeeds.Goals as goal

pub returns : goal.returns
returns c = record { exact = search_replies-succeed }
