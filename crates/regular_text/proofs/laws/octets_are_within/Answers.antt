-- By the grammar's form.
use Rattle.regular_text.proofs.Theorems.{Matches-AllByRecursion}
use Rattle.regular_text.proofs.laws.octets_are_within.Goals as goal

pub returns : goal.returns
returns g c = Matches-AllByRecursion
