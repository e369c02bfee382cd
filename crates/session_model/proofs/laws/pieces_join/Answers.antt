use Rattle.session_model.proofs.Theorems.{pieces-join}
use Rattle.session_model.proofs.laws.pieces_join.Goals as goal

pub returns : goal.returns
returns g c = λ r u d p q. pieces-join r u d p q
