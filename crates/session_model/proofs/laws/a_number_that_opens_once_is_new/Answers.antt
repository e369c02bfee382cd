use Rattle.session_model.proofs.Theorems.{run-new, replay-new}
use Rattle.session_model.proofs.laws.a_number_that_opens_once_is_new.Goals as goal

pub returns : goal.returns
returns g c = record {
  run = λ r t early late next once. run-new r t early late next once;
  replay = λ r t early late next once. replay-new r t early late next once;
}
