use Rattle.std.specs.Prelude.{◌≡◌, true}
use Rattle.session_model.proofs.Theorems.{run_brings}
use Rattle.session_model.proofs.laws.messages_are_made_of_what_came.Goals as goal

pub returns : goal.returns
returns g c = record { exact = λ r test t ss all. run_brings (λ octet. test octet ≡ true) r t ss all }
