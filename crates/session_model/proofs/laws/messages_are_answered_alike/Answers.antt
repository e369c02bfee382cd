use Rattle.session_model.proofs.Theorems.{talk-alike, said-alike}
use Rattle.session_model.proofs.laws.messages_are_answered_alike.Goals as goal

pub returns : goal.returns
returns g c = record {
  talk = λ r one other w ms all. talk-alike r one other w ms all;
  said = λ r one other w cut ms broken all. said-alike r one other w cut ms broken all;
}
