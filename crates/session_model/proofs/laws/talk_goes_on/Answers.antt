use Rattle.session_model.proofs.Theorems.{talk-append}
use Rattle.session_model.proofs.laws.talk_goes_on.Goals as goal

pub returns : goal.returns
returns g c = λ r t w xs ys. talk-append r t w xs ys
