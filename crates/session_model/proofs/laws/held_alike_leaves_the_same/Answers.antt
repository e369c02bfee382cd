use Rattle.session_model.proofs.Theorems.{heard-alike}
use Rattle.session_model.proofs.laws.held_alike_leaves_the_same.Goals as goal

pub returns : goal.returns
returns g c = record { exact = λ r other h s all. heard-alike r other h s all }
