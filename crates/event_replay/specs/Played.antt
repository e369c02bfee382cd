-- The events that a loop hears of a script, as a script has them: long octets come in pieces of the loop's buffer.
use Rattle.std.specs.Prelude.{◌≡◌, ◌≤◌, List, map, length, None}
use Rattle.std.specs.List.{AllByRecursion}
use Rattle.session_hub.specs.session_model.wire_io.script_text.declared.event.ScriptEvent.{ScriptEvent}
use Rattle.session_hub.specs.session_model.wire_io.script_text.declared.event.ScriptEvent.TheVariants as script
use Rattle.session_hub.specs.session_model.wire_io.script_text.script.Script.{OpensOnce, AreFilled}
use Rattle.session_hub.specs.session_model.wire_io.declared.journal.Event.{Event}
use Rattle.session_hub.specs.session_model.wire_io.declared.journal.Event.TheVariants as event
use Rattle.session_hub.specs.session_model.wire_io.Pieces.{pieces}
use Rattle.session_hub.specs.session_model.Run.{Step}
use Rattle.session_hub.specs.session_model.Run as run
use Rattle.session_hub.specs.serve.Loops.{buffer_length}

-- an event of a script as a link gives it
abbrev pub event_of : ScriptEvent → Event
event_of (script.Opened conn) = event.Opened conn
event_of (script.Bytes conn octets) = event.Bytes conn octets
event_of (script.Ended conn) = event.Ended conn

-- and as a step of its session
abbrev pub step_of : ScriptEvent → Step
step_of (script.Opened conn) = run.Opened conn
step_of (script.Bytes conn octets) = run.Bytes conn octets None
step_of (script.Ended conn) = run.Ended conn

-- the steps of events
abbrev pub played_steps : List ScriptEvent → List Step
played_steps events = map step_of events

-- octets fit the loop's buffer
abbrev pub IsShort : ScriptEvent → Type 0
IsShort (script.Opened conn) = Unit {0}
IsShort (script.Bytes conn octets) = length octets ≤ buffer_length
IsShort (script.Ended conn) = Unit {0}

-- events as they are played: they open no number twice, and have some octets each time, which fit the buffer
pub record ArePlayed (events : List ScriptEvent) : Type 0 where
  pub once : OpensOnce events
  pub filled : AreFilled events
  pub short : AllByRecursion IsShort events

-- the events as which a script is played
pub record IsPlayedAs (planned events : List ScriptEvent) : Type 0 where
  pub played : ArePlayed events
  pub pieces : map event_of events ≡ pieces buffer_length planned
