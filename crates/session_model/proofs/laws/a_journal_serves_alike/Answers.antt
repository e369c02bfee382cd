use Rattle.session_model.proofs.Theorems.{served-alike, sound-alike}
use Rattle.session_model.proofs.laws.a_journal_serves_alike.Goals as goal

pub returns : goal.returns
returns g c = record {
  served = λ r one other ss journal all served. served-alike r one other ss journal all served;
  sound = λ r one other ss journal all sound. sound-alike r one other ss journal all sound;
}
