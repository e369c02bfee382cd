-- The next message of a connection: what a walk over a piece of octets finds at the front of what is unread and of the piece.
use Rattle.std.specs.Prelude.{◌≡◌, ◌≢◌, ◌⊎◌, ◌≤◌, ℕ, ◌-◌, Bool, false, not, List, [], ◌++◌, length, take, Option, Some, None}
use Rattle.session_hub.specs.session_model.ldap_msg.declared.kinds.Frame.TheVariants.{Whole}
use Rattle.session_hub.specs.session_model.ldap_msg.Streams.{frame_at}
use Rattle.session_hub.specs.session_model.Run.{Open, new_messages}
use Rattle.session_hub.specs.session_model.Kept.{Kept}
use Rattle.session_hub.specs.session_model.Places.{CompletesOne}
use Rattle.session_hub.specs.Parties.{Requester}
use Rattle.hush_watch.specs.Served.{ServedSessions, ServedHeld, Holds}
use Rattle.hush_watch.specs.declared.next_message.NextMessage.{NextMessage}

-- the message at the front of octets
pub record IsFront (octets message : List ℕ) : Type 0 where
  pub count : ℕ
  pub whole : frame_at octets ≡ Whole count
  pub within : count ≤ length octets
  pub front : message ≡ take count octets

-- a whole message stands at the front of octets, or none does
unfoldable pub IsFirst : List ℕ → Option (List ℕ) → Type 0
IsFirst octets (Some message) = IsFront octets message
IsFirst octets None = (count : ℕ) → frame_at octets ≢ Whole count

-- the message at the front of what is unread and of a piece, and how much of the piece completes it
pub record Completes (unread piece : List ℕ) (next : NextMessage) : Type 0 where
  pub front : IsFront (unread ++ piece) next.octets
  pub count : next.count ≡ length next.octets - length unread

-- one stands there, or none does
unfoldable pub IsNextIn : List ℕ → List ℕ → Option NextMessage → Type 0
IsNextIn unread piece (Some next) = Completes unread piece next
IsNextIn unread piece None = (count : ℕ) → frame_at (unread ++ piece) ≢ Whole count

-- so of the connection of a number in these sessions: what of the piece completes its next message; or the piece completes none
-- of an open connection
abbrev pub IsNextOf : ServedSessions → ℕ → List ℕ → Option NextMessage → Type 0
IsNextOf sessions other piece (Some next) = CompletesOne sessions other (take next.count piece) next.octets
IsNextOf sessions other piece None = (new_messages (sessions.of other).stream piece ≡ []) ⊎ ((sessions.of other).state ≢ Open)

-- and by what is held, of whatever sessions it is
unfoldable pub ShowsNext : ℕ → List ℕ → ServedHeld → Option NextMessage → Type 0
ShowsNext other piece held found = (sessions : ServedSessions) → Holds sessions held → IsNextOf sessions other piece found

-- a connection that is held and not closing
abbrev pub is_open_in : Option (Kept Requester) → Bool
is_open_in None = false
is_open_in (Some connection) = not connection.closing
