-- The state of each connection after events: not opened, open, or ended.
use Rattle.std.specs.Prelude.{◌≡◌, ℕ, ◌==◌, not, Bool, true, false, if◌then◌else◌, List, Option, Some, None}
use Rattle.std.specs.Ordering.{nat_cmp}
use Rattle.std.specs.BTreeMap.{BTreeMap, get}
use Rattle.script_text.specs.declared.event.ScriptEvent.{ScriptEvent}
use Rattle.script_text.specs.declared.event.ScriptEvent.TheVariants.{Opened, Bytes, Ended}
use Rattle.script_text.specs.script.Script.{has, opened_by, ended_by}

-- whether the connection is open, where it was opened
abbrev pub state_of : List ScriptEvent → ℕ → Option Bool
state_of events number = if has number (opened_by events) then Some (not (has number (ended_by events))) else None

-- the state of a connection after one more event
abbrev pub state_after : ScriptEvent → ℕ → Option Bool → Option Bool
state_after (Opened number) other state = if number == other then Some true else state
state_after (Bytes number octets) other state = state
state_after (Ended number) other state = if number == other then Some false else state

-- the map has the state of each connection, and none is ended that wasn't opened
pub record Tracks (connections : BTreeMap ℕ Bool) (events : List ScriptEvent) : Type 0 where
  pub states : (number : ℕ) → get nat_cmp connections number ≡ state_of events number
  pub ended : (number : ℕ) → has number (opened_by events) ≡ false → has number (ended_by events) ≡ false

-- the second map is the first after the event
abbrev pub Follows : BTreeMap ℕ Bool → ScriptEvent → BTreeMap ℕ Bool → Type 0
Follows before event after = (number : ℕ) → get nat_cmp after number ≡ state_after event number (get nat_cmp before number)
