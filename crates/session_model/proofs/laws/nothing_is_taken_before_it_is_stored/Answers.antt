use Rattle.session_model.proofs.Theorems.{stored_before}
use Rattle.session_model.proofs.laws.nothing_is_taken_before_it_is_stored.Goals as goal

pub returns : goal.returns
returns g c = record {
  exact = λ r t steps journal sound early late front back number octets joins whole are. stored_before r t steps journal sound early late front back number octets joins whole are;
}
