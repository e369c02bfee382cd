use Rattle.session_model.proofs.Theorems.{run-meets, replay-meets}
use Rattle.session_model.proofs.laws.what_a_connection_meets.Goals as goal

pub returns : goal.returns
returns g c = record {
  room = λ r allows reads number t ss all. (run-meets r allows reads number t ss all).0;
  messages = λ r allows reads number t ss all. (run-meets r allows reads number t ss all).1;
  replay_room = λ r allows reads number t ss all. (replay-meets r allows reads number t ss all).0;
  replay_messages = λ r allows reads number t ss all. (replay-meets r allows reads number t ss all).1;
}
