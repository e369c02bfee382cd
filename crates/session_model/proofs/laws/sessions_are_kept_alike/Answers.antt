use Rattle.session_model.proofs.Theorems.{answered-kept}
use Rattle.session_model.proofs.laws.sessions_are_kept_alike.Goals as goal

pub returns : goal.returns
returns g c = record { exact = λ r u taken h s keeps. answered-kept r u taken h s keeps }
