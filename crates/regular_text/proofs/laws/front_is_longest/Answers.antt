-- The front that the machine finds is the longest.
use Rattle.regular_text.proofs.Theorems.{front-IsLongestFront}
use Rattle.regular_text.proofs.laws.front_is_longest.Goals as goal

pub returns : goal.returns
returns g c = front-IsLongestFront
