-- How many octets may wait for a connection before a further message of it is answered.
use Rattle.std.specs.Prelude.{◌≡◌, ◌≤◌, ◌<◌, ◌⊎◌, ℕ, ◌==◌, ◌-◌, max, false, cond, List, [], ◌++◌, length, sum_by, Option, Some, None}
use Rattle.session_model.specs.ldap_msg.Replies.{notice_octets}
use Rattle.session_model.specs.ldap_msg.Streams.{whole}
use Rattle.session_model.specs.Kept.{Kept, kept_of, speech}
use Rattle.session_hub.specs.declared.bounds.Bounds.{Bounds}
use Rattle.session_hub.specs.declared.event.Event.{Event}
use Rattle.session_hub.specs.declared.event.Event.TheVariants as event
use Rattle.session_hub.specs.Parties.{DirectoryEntries, Requester}
use Rattle.session_hub.specs.Terms.{Terms}
use Rattle.session_hub.specs.Answering.{rules}

-- what each connection has room for, whatever waits for the others
abbrev pub least_room : ℕ
least_room = 1048576

-- the room of a connection: what the others leave of all queues' bound, and at least so much
abbrev pub room_of : ℕ → ℕ → ℕ
room_of queues others = max least_room (queues - others)

-- how many octets wait for a connection, unless it has this number
abbrev pub queued_unless : ℕ → Kept Requester → ℕ
queued_unless number connection = cond (connection.number == number) 0 (length connection.queue)

-- how many octets wait for the connections of other numbers
abbrev pub queued_beside : ℕ → List (Kept Requester) → ℕ
queued_beside number connections = sum_by (queued_unless number) connections

-- what waits behind a queue once so many messages of a stream were answered
abbrev pub queued_after : Terms → DirectoryEntries → Requester → List ℕ → List ℕ → ℕ → List ℕ
queued_after terms entries who stream queue answered = queue ++ (speech (rules terms) (Some answered) entries who stream).replies

-- before each of so many messages but the first, no more waited than there is room for
abbrev pub HasRoom : Terms → ℕ → DirectoryEntries → Requester → List ℕ → List ℕ → ℕ → Type 0
HasRoom terms room entries who stream queue answered =
    (count : ℕ) → 0 < count → count < answered → length (queued_after terms entries who stream queue count) ≤ room

-- where a connection was cut, it was so behind so many messages
abbrev pub IsCutBehind : ℕ → Option ℕ → Type 0
IsCutBehind answered None = Unit {0}
IsCutBehind answered (Some count) = count ≡ answered

-- a piece is answered within the room: so many messages of its stream were answered, before each of which but the first no
-- more waited than there is room for; where the connection was cut, it was so behind them; and behind their answers nothing
-- waits but, it may be, a notice of disconnection
pub record StaysWithin (terms : Terms) (room : ℕ) (piece : List ℕ) (entries : DirectoryEntries) (old new : Kept Requester) : Type 0 where
  pub answered : ℕ
  pub ending : List ℕ
  pub spare : HasRoom terms room entries old.who (old.rest ++ piece) old.queue answered
  pub complete : answered ≤ length (whole (old.rest ++ piece))
  pub cut : IsCutBehind answered new.cut
  pub queued : new.queue ≡ queued_after terms entries old.who (old.rest ++ piece) old.queue answered ++ ending
  pub notice : (ending ≡ []) ⊎ (ending ≡ notice_octets)

-- so it is of the connection of a number, if it is held and open
abbrev pub AnswersWithin : Terms → ℕ → ℕ → List ℕ → DirectoryEntries → List (Kept Requester) → List (Kept Requester) → Type 0
AnswersWithin terms room number piece entries old new =
    (connection : Kept Requester) → kept_of number old ≡ Some connection → connection.closing ≡ false →
    (now : Kept Requester) × (kept_of number new ≡ Some now) × StaysWithin terms room piece entries connection now

-- the octets of an event are answered within what the queues of the others leave
abbrev pub HearsWithin : Event → Bounds → DirectoryEntries → List (Kept Requester) → List (Kept Requester) → Type 0
HearsWithin (event.Opened number) bounds entries old new = Unit {0}
HearsWithin (event.Bytes number octets) bounds entries old new =
    AnswersWithin bounds.terms (room_of bounds.queues (queued_beside number old)) number octets.now entries old new
HearsWithin (event.Ended number) bounds entries old new = Unit {0}
