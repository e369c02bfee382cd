use Rattle.session_model.proofs.Theorems.{step-alike, run-alike, replayed-alike}
use Rattle.session_model.proofs.laws.runs_are_alike.Goals as goal

pub returns : goal.returns
returns g c = record {
  step = λ r other u s all. step-alike r other u s all;
  run = λ r one other ss all. run-alike r other one ss all;
  replay = λ r one other ss all. replayed-alike r other one ss all;
}
