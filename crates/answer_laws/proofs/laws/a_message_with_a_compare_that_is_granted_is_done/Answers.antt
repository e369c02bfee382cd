-- The law is proved of the definitions.
use Rattle.answer_laws.proofs.laws.AnswerLemmas.{answer_read-compared}
use Rattle.answer_laws.proofs.laws.a_message_with_a_compare_that_is_granted_is_done.Goals as goal

pub returns : goal.returns
returns c = record { exact = answer_read-compared }
