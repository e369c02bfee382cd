use Rattle.session_model.proofs.Theorems.{stored_front}
use Rattle.session_model.proofs.laws.what_is_stored_is_a_front_of_the_changes.Goals as goal

pub returns : goal.returns
returns g c = record {
  exact = λ r t steps journal sound early late front back joins whole are. stored_front r t steps journal sound early late front back joins whole are;
}
