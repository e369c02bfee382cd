-- By the law of filters.
use Rattle.base_laws.proofs.Theorems.{filter-filter_kept}
use Rattle.base_laws.proofs.laws.one_filter_is_left.Goals as goal

pub returns : goal.returns
returns g c = λ p q xs. filter-filter_kept p q xs
