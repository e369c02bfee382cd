use Rattle.ber_elements.proofs.Theorems.{shortest_length}
use Rattle.ber_elements.proofs.laws.lengths_are_shortest.Goals as goal

pub returns : goal.returns
returns c = shortest_length
