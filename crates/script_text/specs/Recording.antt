-- Events kept as rows and octets: the octets of each event follow those of the events before it.
use Rattle.std.specs.Prelude.{◌≡◌, ◌≤◌, ◌+◌, ℕ, List, [], ◌∷◌, take, drop, length, sum_by, Option, Some, None}
use Rattle.script_text.specs.declared.event.ScriptEvent.{ScriptEvent}
use Rattle.script_text.specs.declared.event.ScriptEvent.TheVariants as event
use Rattle.script_text.specs.declared.recording.Head.{Head}
use Rattle.script_text.specs.declared.recording.EventKind.{EventKind}
use Rattle.script_text.specs.declared.recording.EventKind.TheVariants.{Opened, Bytes, Ended}
use Rattle.script_text.specs.declared.recording.Row.{Row}

-- the event of a kind, of the connection, with the octets
abbrev pub event_by : EventKind → ℕ → List ℕ → ScriptEvent
event_by Opened conn octets = event.Opened conn
event_by Bytes conn octets = event.Bytes conn octets
event_by Ended conn octets = event.Ended conn

-- the event of a head with the octets
abbrev pub event_with : Head → List ℕ → ScriptEvent
event_with head octets = event_by head.kind head.conn octets

-- what an event is, without its octets
abbrev pub head_of : ScriptEvent → Head
head_of (event.Opened conn) = record { kind = Opened; conn = conn }
head_of (event.Bytes conn octets) = record { kind = Bytes; conn = conn }
head_of (event.Ended conn) = record { kind = Ended; conn = conn }

-- the octets of an event
abbrev pub octets_in : ScriptEvent → List ℕ
octets_in (event.Opened conn) = []
octets_in (event.Bytes conn octets) = octets
octets_in (event.Ended conn) = []

-- what the first event is, without its octets
abbrev pub first_head : List ScriptEvent → Option Head
first_head [] = None
first_head (event ∷ events) = Some (head_of event)

-- the octets of the first event
abbrev pub first_octets : List ScriptEvent → List ℕ
first_octets [] = []
first_octets (event ∷ events) = octets_in event

-- the events after the first
abbrev pub without_first : List ScriptEvent → List ScriptEvent
without_first [] = []
without_first (event ∷ events) = events

-- the events of the rows, whose octets stand one after another
unfoldable pub events_from : List Row → List ℕ → List ScriptEvent
events_from [] octets = []
events_from (row ∷ rows) octets = event_with row.head (take row.size octets) ∷ events_from rows (drop row.size octets)

-- the rows that are left have the octets that are left
pub record IsPacked (place start : ℕ) (rows : List Row) (octets : List ℕ) : Type 0 where
  pub within : place ≤ length rows
  pub packed : start + sum_by (λ row. row.size) (drop place rows) ≡ length octets
