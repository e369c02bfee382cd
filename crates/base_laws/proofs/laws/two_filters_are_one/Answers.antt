-- By the law of filters.
use Rattle.base_laws.proofs.Theorems.{filter-filter}
use Rattle.base_laws.proofs.laws.two_filters_are_one.Goals as goal

pub returns : goal.returns
returns g c = λ p q xs. filter-filter p q xs
