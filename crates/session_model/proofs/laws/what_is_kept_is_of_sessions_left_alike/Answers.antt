use Rattle.session_model.proofs.Theorems.{Keeps-alike, Keeps-hung_up}
use Rattle.session_model.proofs.laws.what_is_kept_is_of_sessions_left_alike.Goals as goal

pub returns : goal.returns
returns g c = record {
  alike = λ number u v taken h alike keeps. Keeps-alike number u v taken h alike keeps;
  hung_up = λ r number u taken h keeps. Keeps-hung_up r number u taken h keeps;
}
