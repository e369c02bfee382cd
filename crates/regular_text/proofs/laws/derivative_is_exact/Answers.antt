-- Both directions of the derivative.
use Rattle.regular_text.proofs.Theorems.{after-Matches}
use Rattle.regular_text.proofs.laws.derivative_is_exact.Goals as goal

pub returns : goal.returns
returns g c = after-Matches
