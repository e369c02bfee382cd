use Rattle.ber_elements.proofs.Theorems.{no_front}
use Rattle.ber_elements.proofs.laws.one_element.Goals as goal

pub returns : goal.returns
returns c = no_front
