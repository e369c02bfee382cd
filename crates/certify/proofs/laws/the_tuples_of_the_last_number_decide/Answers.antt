-- The law is proved of the definitions.
use Rattle.certify.proofs.laws.LastLemmas.{decided-decisive}
use Rattle.certify.proofs.laws.the_tuples_of_the_last_number_decide.Goals as goal

pub returns : goal.returns
returns c = record { exact = decided-decisive }
