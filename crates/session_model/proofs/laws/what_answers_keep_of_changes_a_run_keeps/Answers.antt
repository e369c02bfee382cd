use Rattle.std.specs.Prelude.{◌≡◌, true}
use Rattle.session_model.proofs.Theorems.{run_extends, replayed_extends}
use Rattle.session_model.proofs.laws.what_answers_keep_of_changes_a_run_keeps.Goals as goal

pub returns : goal.returns
returns g c = record {
  run = λ r allowed test t ss keeps all holds. run_extends r (λ message. allowed message ≡ true) (λ left changes. test left changes ≡ true) keeps t ss all holds;
  replay = λ r allowed test t ss keeps all holds. replayed_extends r (λ message. allowed message ≡ true) (λ left changes. test left changes ≡ true) keeps t ss all holds;
}
