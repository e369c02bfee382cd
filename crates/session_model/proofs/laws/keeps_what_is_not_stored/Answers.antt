use Rattle.session_model.proofs.Theorems.{changes-step}
use Rattle.session_model.proofs.laws.keeps_what_is_not_stored.Goals as goal

pub returns : goal.returns
returns g c = record { exact = λ r u taken h s stored keeps is. changes-step r u taken h s stored keeps is }
