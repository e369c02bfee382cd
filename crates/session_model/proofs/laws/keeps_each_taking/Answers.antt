use Rattle.session_model.proofs.Theorems.{Keeps-taken}
use Rattle.session_model.proofs.laws.keeps_each_taking.Goals as goal

pub returns : goal.returns
returns g c = λ u taken h d n keeps fits. Keeps-taken u taken h d n keeps fits
