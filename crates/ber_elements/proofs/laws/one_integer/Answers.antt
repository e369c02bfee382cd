use Rattle.ber_elements.proofs.Theorems.{one_form}
use Rattle.ber_elements.proofs.laws.one_integer.Goals as goal

pub returns : goal.returns
returns c = one_form
