-- Scripts: the events that a text of lines gives, or the first line that breaks the grammar.
use Rattle.std.specs.Prelude.{◌≡◌, ℕ, ◌+◌, ◌<◌, ◌&&◌, ◌||◌, nat_eq, not, Bool, true, false, List, [], length, take, slice_index_or, Option, Some, None}
use Rattle.std.specs.List.{filter_map, IsDistinct, AllByRecursion}
use Rattle.std.specs.Str.Lines.{lines}
pub use Rattle.plain_values.specs.Numbers.{has}
use Rattle.script_text.specs.declared.event.ScriptEvent.{ScriptEvent}
use Rattle.script_text.specs.declared.event.ScriptEvent.TheVariants.{Opened, Bytes, Ended}
use Rattle.script_text.specs.LineText.{is_silent}
use Rattle.script_text.specs.LineReading.{event_of}

-- the number that the event opens
abbrev pub opens : ScriptEvent → Option ℕ
opens (Opened number) = Some number
opens (Bytes number octets) = None
opens (Ended number) = None

-- the number that the event ends
abbrev pub ends : ScriptEvent → Option ℕ
ends (Opened number) = None
ends (Bytes number octets) = None
ends (Ended number) = Some number

-- the numbers that the events open, in order
abbrev pub opened_by : List ScriptEvent → List ℕ
opened_by events = filter_map opens events

-- the numbers that the events end, in order
abbrev pub ended_by : List ScriptEvent → List ℕ
ended_by events = filter_map ends events

-- the events open the number and do not end it
abbrev pub is_open_after : List ScriptEvent → ℕ → Bool
is_open_after events number = has number (opened_by events) && not (has number (ended_by events))

-- the event may come after the events before it: a number is opened once, and octets and the end
-- come on an open one
abbrev pub may_follow : List ScriptEvent → ScriptEvent → Bool
may_follow before (Opened number) = not (has number (opened_by before))
may_follow before (Bytes number octets) = is_open_after before number
may_follow before (Ended number) = is_open_after before number

-- the line has an event, which may come after the events before it
abbrev pub gives_next : List ScriptEvent → Option ScriptEvent → Bool
gives_next before None = false
gives_next before (Some event) = may_follow before event

-- the line may come after the events before it
abbrev pub is_good_line : List ScriptEvent → List ℕ → Bool
is_good_line before line = is_silent line || gives_next before (event_of line)

-- the events of the lines, in order
abbrev pub events_of : List (List ℕ) → List ScriptEvent
events_of lines = filter_map event_of lines

-- the line at the index, from 0, may come after the lines before it
abbrev pub is_good_at : List (List ℕ) → ℕ → Bool
is_good_at lines index = is_good_line (events_of (take index lines)) (slice_index_or lines index [])

-- each of the lines may come after those before it
abbrev pub AreGood : List (List ℕ) → Type 0
AreGood lines = (index : ℕ) → index < length lines → is_good_at lines index ≡ true

-- the text is a script of the events: each of its lines is good, and the events are those of its lines
pub record IsScript (text : List ℕ) (events : List ScriptEvent) : Type 0 where
  pub good : AreGood (lines text)
  pub given : events ≡ events_of (lines text)

-- the line of the number, from 1, is the first of the text that is not good
pub record IsFirstBadLine (text : List ℕ) (number : ℕ) : Type 0 where
  pub index : ℕ
  pub counted : number ≡ index + 1
  pub within : index < length (lines text)
  pub bad : is_good_at (lines text) index ≡ false
  pub earlier : AreGood (take index (lines text))

-- no two of the events open the same number
abbrev pub OpensOnce : List ScriptEvent → Type 0
OpensOnce events = IsDistinct nat_eq (opened_by events)

-- the event's octets, where it has some, are at least one
abbrev pub IsFilled : ScriptEvent → Type 0
IsFilled (Opened number) = Unit {0}
IsFilled (Bytes number octets) = 0 < length octets
IsFilled (Ended number) = Unit {0}

-- each of the events has octets where it is to have some
abbrev pub AreFilled : List ScriptEvent → Type 0
AreFilled events = AllByRecursion IsFilled events
