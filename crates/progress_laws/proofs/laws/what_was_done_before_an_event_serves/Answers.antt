-- The law is proved of the definitions.
use Rattle.progress_laws.proofs.laws.MomentLemmas.{served_before, front_steps}
use Rattle.progress_laws.proofs.laws.TakenLemmas.{took-replies}
use Rattle.progress_laws.proofs.laws.what_was_done_before_an_event_serves.Goals as goal

pub returns : goal.returns
returns g c = record {
  exact = λ r t steps early late journal front back event sound joins whole are. served_before r t steps early late journal front back event sound joins whole are;
  replies = λ r t steps early late journal front back event number sound joins whole are took.
      took-replies r t early front number (served_before r t steps early late journal front back event sound joins whole are) took;
  split = λ r t steps journal front back sound whole. front_steps r t steps journal front back sound whole;
}
