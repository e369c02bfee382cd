use Rattle.session_model.proofs.Theorems.{run-purged, replayed-purged, taken-purged}
use Rattle.session_model.proofs.laws.steps_of_others_do_not_show.Goals as goal

pub returns : goal.returns
returns g c = record {
  exact = λ r t number ss once room all. run-purged r t number ss once room all;
  replay = λ r t number ss once room all. replayed-purged r t number ss once room all;
  taken = λ r t number ss journal sound once room all. taken-purged r t number ss journal sound once room all;
}
