use Rattle.session_model.proofs.Theorems.{completes_next, completes_none, asks_kept, none_asks}
use Rattle.session_model.proofs.laws.what_is_kept_shows_the_next_message.Goals as goal

pub returns : goal.returns
returns g c = record {
  one = λ u taken h other n k p keeps is still frames. completes_next u taken h other n k p keeps is still frames;
  none = λ u taken h other k p keeps is still none. completes_none u taken h other k p keeps is still none;
  closed = λ u taken h other keeps none. none_asks u taken h other keeps none;
  asks = λ u taken h number keeps. asks_kept u taken h number keeps;
}
