use Rattle.session_model.proofs.Theorems.{Keeps-step}
use Rattle.session_model.proofs.laws.keeps_each_step.Goals as goal

pub returns : goal.returns
returns g c = λ r u taken h s new keeps. Keeps-step r u taken h s new keeps
