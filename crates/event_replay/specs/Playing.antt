-- One event after the other: those of one connection, and how a link gives the next.
use Rattle.std.specs.Prelude.{◌≡◌, ℕ, false, List, [], ◌∷◌, ◌++◌, filter, Option, Some, None}
use Rattle.session_hub.specs.session_model.Purging.{is_of}
use Rattle.session_hub.specs.session_model.script_text.declared.event.ScriptEvent.{ScriptEvent}
use Rattle.session_hub.specs.session_model.script_text.script.Script.{IsFilled, opens}
use Rattle.session_hub.specs.session_model.wire_io.declared.journal.Event.{Event}
use Rattle.session_hub.specs.session_model.wire_io.declared.journal.Event.TheVariants.{Stop}
use Rattle.session_hub.specs.session_model.wire_io.declared.journal.Item.TheVariants.{Heard}
use Rattle.session_hub.specs.session_model.wire_io.Journal.{was_opened}
use Rattle.session_hub.specs.session_model.wire_io.Pieces.{pieces}
use Rattle.session_hub.specs.session_model.wire_io.Scripted.{LinkState}
use Rattle.session_hub.specs.serve.Loops.{buffer_length}
use Rattle.event_replay.specs.Played.{event_of, step_of, IsShort}

-- the events of this connection alone
abbrev pub own_of : ℕ → List ScriptEvent → List ScriptEvent
own_of number events = filter (λ event. is_of number (step_of event)) events

-- an event in memory is the one that was heard, with octets where it is to have some, which fit the buffer
pub record IsCopyOf (heard : Event) (event : ScriptEvent) : Type 0 where
  pub same : heard ≡ event_of event
  pub filled : IsFilled event
  pub short : IsShort event

-- so of the event that was heard; none where that is Stop
abbrev pub IsGiven : Event → Option ScriptEvent → Type 0
IsGiven heard (Some event) = IsCopyOf heard event
IsGiven heard None = heard ≡ Stop

-- the link gave the event: the next piece, noted in its journal, of a connection that was not opened before where it opens one
pub record IsNext (old : LinkState) (event : ScriptEvent) (new : LinkState) : Type 0 where
  pub filled : IsFilled event
  pub short : IsShort event
  pub first : pieces buffer_length old.plan.to_come ≡ event_of event ∷ pieces buffer_length new.plan.to_come
  pub fresh : (conn : ℕ) → opens event ≡ Some conn → was_opened conn old.journal ≡ false
  pub noted : new.journal ≡ old.journal ++ Heard (event_of event) ∷ []

-- the link gave an event, or has none left
abbrev pub TakesNext : LinkState → Option ScriptEvent → LinkState → Type 0
TakesNext old (Some event) new = IsNext old event new
TakesNext old None new = old.plan.to_come ≡ []
