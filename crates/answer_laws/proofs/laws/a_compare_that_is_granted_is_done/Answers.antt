-- The law is proved of the definitions.
use Rattle.answer_laws.proofs.laws.CompareLemmas.{compare_result-granted}
use Rattle.answer_laws.proofs.laws.a_compare_that_is_granted_is_done.Goals as goal

pub returns : goal.returns
returns c = record { exact = compare_result-granted }
