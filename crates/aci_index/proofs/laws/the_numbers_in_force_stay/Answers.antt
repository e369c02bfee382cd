-- By the lemma.
use Rattle.aci_index.proofs.laws.NumberLemmas.{numbers-aside}
use Rattle.aci_index.proofs.laws.the_numbers_in_force_stay.Goals as goal

pub returns : goal.returns
returns c = record { exact = numbers-aside }
