use Rattle.fault_places.proofs.laws.LoadedLemmas.{nothing_said}
use Rattle.fault_places.proofs.laws.nothing_is_said_of_a_file_that_is_loaded.Goals as goal

-- each record is loaded
pub returns : goal.returns
returns c = record { exact = nothing_said }
