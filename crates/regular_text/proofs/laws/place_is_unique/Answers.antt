-- Each of two places is at most the other.
use Rattle.regular_text.proofs.Theorems.{IsPlace-unique}
use Rattle.regular_text.proofs.laws.place_is_unique.Goals as goal

pub returns : goal.returns
returns g c = λ class grammar text one other. IsPlace-unique _ text one other
