-- How the events of a script come: one by one, octets that are longer than the buffer in pieces, and
-- Ready in place of an event whose connection is on hold.
use Rattle.std.specs.Prelude.{◌≡◌, ℕ, Bool, false, List, [], ◌∷◌, take, drop, length, Option, Some, None, Result, Ok, Err, if◌then◌else◌}
use Rattle.wire_io.specs.declared.answers.Heard.{Heard}
use Rattle.wire_io.specs.declared.answers.Heard.TheVariants as answer
use Rattle.script_text.specs.declared.event.ScriptEvent.{ScriptEvent}
use Rattle.script_text.specs.declared.event.ScriptEvent.TheVariants as script
use Rattle.wire_io.specs.declared.journal.Event.{Event}
use Rattle.wire_io.specs.declared.journal.Event.TheVariants.{Opened, Bytes, Ended, Ready, Stop}
use Rattle.wire_io.specs.declared.journal.Item.{Item}
use Rattle.wire_io.specs.Journal.{is_on_hold}
use Rattle.wire_io.specs.link.Plan.{Plan}
use Rattle.wire_io.specs.link.Telling.{event_of}

-- the connection of a planned event
abbrev pub conn_of : ScriptEvent → ℕ
conn_of (script.Opened conn) = conn
conn_of (script.Bytes conn octets) = conn
conn_of (script.Ended conn) = conn

-- an event that comes, and the planned events left after it
pub record Turn : Type 0 where
  pub event : Event
  pub left : List ScriptEvent

-- the octets left of a planned event stay in front, if there are any
unfoldable pub left_over : ℕ → List ℕ → List ScriptEvent → List ScriptEvent
left_over conn [] events = events
left_over conn (octet ∷ octets) events = script.Bytes conn (octet ∷ octets) ∷ events

-- the first planned event as it comes in a buffer of the length
unfoldable pub first_turn : ℕ → ScriptEvent → List ScriptEvent → Turn
first_turn len (script.Opened conn) events = record { event = Opened conn; left = events }
first_turn len (script.Bytes conn octets) events = record { event = Bytes conn (take len octets); left = left_over conn (drop len octets) events }
first_turn len (script.Ended conn) events = record { event = Ended conn; left = events }

-- the first planned event, or Stop after the last
unfoldable pub front_turn : ℕ → List ScriptEvent → Turn
front_turn len [] = record { event = Stop; left = [] }
front_turn len (event ∷ events) = first_turn len event events

-- the next event: Ready where the first planned one is of a connection on hold
unfoldable pub next_turn : (ℕ → Bool) → ℕ → List ScriptEvent → Turn
next_turn on_hold len [] = front_turn len []
next_turn on_hold len (event ∷ events) =
    if on_hold (conn_of event) then record { event = Ready (conn_of event); left = event ∷ events } else front_turn len (event ∷ events)

-- which connections the journal, if it is told, has on hold
unfoldable pub holds_of : Option (List Item) → ℕ → Bool
holds_of None conn = false
holds_of (Some journal) conn = is_on_hold conn journal

-- the connection of the first planned event
abbrev pub first_conn : List ScriptEvent → Option ℕ
first_conn [] = None
first_conn (event ∷ events) = Some (conn_of event)

-- the planned events without so many octets of the first one
abbrev pub without_front : ℕ → List ScriptEvent → List ScriptEvent
without_front given [] = []
without_front given (script.Opened conn ∷ events) = script.Opened conn ∷ events
without_front given (script.Bytes conn octets ∷ events) = script.Bytes conn (drop given octets) ∷ events
without_front given (script.Ended conn ∷ events) = script.Ended conn ∷ events

-- what is left where the answer is that event: Ready and Stop bring the script on by nothing
abbrev pub left_by : Heard → ℕ → List ScriptEvent → List ScriptEvent
left_by (answer.Opened conn) len events = (front_turn len events).left
left_by (answer.Bytes conn count) len events = (front_turn len events).left
left_by (answer.Ended conn) len events = (front_turn len events).left
left_by (answer.Ready conn) len events = events
left_by answer.Idle len events = events
left_by answer.Stop len events = events

-- the answer is the next event, and the plan goes on; a fault takes no event
unfoldable pub NextPlays : {E : Type 0} → Option (List Item) → Option Plan → List ℕ → Result Heard E → Option Plan → Type 0
NextPlays journal old buf (Err fault) new = new ≡ old
NextPlays journal None buf (Ok given) new = new ≡ None
NextPlays journal (Some plan) buf (Ok given) new =
    let turn = next_turn (holds_of journal) (length buf) plan.to_come in
    (event_of buf given ≡ turn.event) × (new ≡ Some (record plan { to_come = turn.left }))
