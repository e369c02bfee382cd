-- The law is proved of the definitions.
use Rattle.acdf_filters.proofs.laws.DecisionLaw.{standing-fold, decided-fold}
use Rattle.acdf_filters.proofs.laws.the_running_state_is_that_of_the_six_filters.Goals as goal

pub returns : goal.returns
returns c = record { state = standing-fold; exact = decided-fold }
