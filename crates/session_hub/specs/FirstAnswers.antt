-- When the first answer to a connection's octets takes no memory, since the connection has kept the room for it from its
-- opening: the notice of disconnection (RFC 4511 4.4.1), and the answer to an anonymous bind (RFC 4513 5.1.1).
use Rattle.std.specs.Prelude.{◌≡◌, ◌<◌, ◌≤◌, ◌⊎◌, ℕ, false, List, [], ◌++◌, take, Option, Some, None}
use Rattle.session_model.specs.ldap_msg.declared.kinds.Frame.TheVariants.{Whole, Bad}
use Rattle.session_model.specs.ldap_msg.declared.kinds.Message.{Message}
use Rattle.session_model.specs.ldap_msg.reading.Messages.{message_of}
use Rattle.session_model.specs.ldap_msg.Streams.{frame_at}
use Rattle.session_model.specs.Kept.{Kept, kept_of, cut_of}
use Rattle.session_hub.specs.Parties.{Requester}
use Rattle.session_hub.specs.SimpleBinds.{simple_message}
use Rattle.session_hub.specs.declared.event.Event.{Event}
use Rattle.session_hub.specs.declared.event.Event.TheVariants as event

-- how many octets of replies, and how many unread, an open connection keeps room for: the notice has 38, and the answer to a
-- bind at most 17
abbrev pub kept_room : ℕ
kept_room = 64

-- what was read is an anonymous bind of version 3: no name, an empty password and no controls
pub record IsAnonymousBind (read : Option Message) : Type 0 where
  pub id : ℕ
  pub says : read ≡ Some (simple_message id [] [])

-- unread octets and a piece together begin with such a bind; where any octets were unread, it has no more than there is room for
pub record BeginsWithBind (unread piece : List ℕ) : Type 0 where
  pub count : ℕ
  pub whole : frame_at (unread ++ piece) ≡ Whole count
  pub bind : IsAnonymousBind (message_of (take count (unread ++ piece)))
  pub joins : (unread ≡ []) ⊎ (count ≤ kept_room)

-- the first answer to unread octets and a piece is one that has room: together they begin with the front of no message, or
-- with such a bind
abbrev pub HasKeptAnswer : List ℕ → List ℕ → Type 0
HasKeptAnswer unread piece = (frame_at (unread ++ piece) ≡ Bad) ⊎ BeginsWithBind unread piece

-- a connection that is open, and to which nothing is still to be sent
pub record IsIdle (connection : Kept Requester) : Type 0 where
  pub still : connection.closing ≡ false
  pub sent : connection.queue ≡ []

-- a cut comes only behind a first answer
abbrev pub IsBehindFirst : Option ℕ → Type 0
IsBehindFirst None = Unit {0}
IsBehindFirst (Some answered) = 0 < answered

-- where the connection of a number is idle, and the first answer to what is unread and a piece has room, it isn't cut before
-- that answer
abbrev pub AnswersFirst : ℕ → List ℕ → List (Kept Requester) → List (Kept Requester) → Type 0
AnswersFirst number piece old new =
    (connection : Kept Requester) → kept_of number old ≡ Some connection → IsIdle connection → HasKeptAnswer connection.rest piece → IsBehindFirst (cut_of number new)

-- so it is of the octets of an event
abbrev pub HearsFirst : Event → List (Kept Requester) → List (Kept Requester) → Type 0
HearsFirst (event.Opened number) old new = Unit {0}
HearsFirst (event.Bytes number octets) old new = AnswersFirst number octets.now old new
HearsFirst (event.Ended number) old new = Unit {0}
