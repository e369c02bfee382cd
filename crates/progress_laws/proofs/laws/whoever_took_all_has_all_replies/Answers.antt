-- The law is proved of the definitions.
use Rattle.progress_laws.proofs.laws.TakenLemmas.{all_replies, took-replies, unrefused-replies}
use Rattle.progress_laws.proofs.laws.whoever_took_all_has_all_replies.Goals as goal

pub returns : goal.returns
returns g c = record {
  all = λ r t steps j number served took. took-replies r t steps j number served took;
  unrefused = λ r t steps j number served none. unrefused-replies r t steps j number served none;
  there = λ r t steps j number served there never. all_replies r t steps j number served (λ still. never) (λ away. absurd (there away));
  left = λ r t steps j number served away unlost. all_replies r t steps j number served (λ there. absurd (there away)) (λ same. unlost);
}
