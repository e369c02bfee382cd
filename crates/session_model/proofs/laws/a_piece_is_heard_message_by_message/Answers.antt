use Rattle.session_model.proofs.Theorems.{run-piece, replay-piece, places-none, places-closed}
use Rattle.session_model.proofs.laws.a_piece_is_heard_message_by_message.Goals as goal

pub returns : goal.returns
returns g c = record {
  run = λ r number heard other u p q m completes. run-piece r number heard other u p q m completes;
  replay = λ r number heard other u p q m completes. replay-piece r number heard other u p q m completes;
  none = λ r after number heard other u p none. places-none r after number heard other u p none;
  closed = λ r after number heard other u p shut. places-closed r after number heard other u p shut;
}
