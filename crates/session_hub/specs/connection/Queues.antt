-- What is always true of a connection's buffers: of the one that its queue stands in, behind the octets that were taken, and of
-- the one of its unread octets.
use Rattle.std.specs.Prelude.{◌≡◌, ◌≤◌, ℕ, Bool, false}
use Rattle.session_hub.specs.FirstAnswers.{kept_room}

-- no more octets were taken than there are; where all were, the buffer is empty; and of an open connection it has the kept room
pub record IsQueue (taken len capacity : ℕ) (closing : Bool) : Type 0 where
  pub within : taken ≤ len
  pub empty : taken ≡ len → len ≡ 0
  pub room : closing ≡ false → kept_room ≤ capacity

-- both buffers: that of the queue is one, and that of the unread octets has the kept room
pub record AreBuffers (taken len capacity : ℕ) (closing : Bool) (unread : ℕ) : Type 0 where
  pub queue : IsQueue taken len capacity closing
  pub room : kept_room ≤ unread
