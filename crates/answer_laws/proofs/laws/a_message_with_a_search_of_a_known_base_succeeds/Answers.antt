-- The law is proved of the definitions.
use Rattle.answer_laws.proofs.laws.AnswerLemmas.{answer_read-searched}
use Rattle.answer_laws.proofs.laws.a_message_with_a_search_of_a_known_base_succeeds.Goals as goal

pub returns : goal.returns
returns c = record { exact = answer_read-searched }
