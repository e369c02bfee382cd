-- Laws of the definitions, each the contract of a public function without parameters.
use Rattle.std.specs.Prelude.{◌≡◌, ℕ, zero, suc, ◌<◌, ◌≤◌, false, List, [], ◌∷◌, ◌++◌, take, replicate, length, Option, Some, Ok}
use Rattle.std.specs.List.Sorted.{IsPermutation}
use Rattle.script_text.specs.declared.event.ScriptEvent.{ScriptEvent}
use Rattle.wire_io.specs.declared.answers.Heard.{Heard}
use Rattle.wire_io.specs.declared.answers.NextFault.{NextFault}
use Rattle.wire_io.specs.declared.journal.Event.{Event}
use Rattle.wire_io.specs.declared.journal.Event.TheVariants.{Stop}
use Rattle.wire_io.specs.declared.journal.Item.{Item}
use Rattle.wire_io.specs.Pieces.{pieces, Plays}
use Rattle.wire_io.specs.link.Plan.{Plan}
use Rattle.wire_io.specs.Playing.{next_turn, NextPlays}
use Rattle.wire_io.specs.Rising.{IsRising, rising}
use Rattle.wire_io.specs.link.Telling.{event_of}

-- so many events, one after another, while no connection is on hold
unfoldable pub first_events : ℕ → ℕ → List ScriptEvent → List Event
first_events zero len events = []
first_events (suc count) len events = (next_turn (λ conn. false) len events).event ∷ first_events count len (next_turn (λ conn. false) len events).left

-- while no connection is on hold, the events that come are the script's in pieces of the buffer's length,
-- and then Stop for ever
abbrev pub ScriptsComeInPieces : Type 0
ScriptsComeInPieces =
    (count most len : ℕ) (events : List ScriptEvent) → 0 < len → count ≤ most → first_events count len events ≡ take count (pieces len events ++ replicate most Stop)

-- with a buffer of one length, each event that a link gives brings its script on by that event
abbrev pub EventsBringScriptsOn : Type 0
EventsBringScriptsOn =
    (journal : Option (List Item)) (plan after : Plan) (buf : List ℕ) (given : Heard) → 0 < length buf
    → NextPlays {E = NextFault} journal (Some plan) buf (Ok given) (Some after) → Plays (length buf) plan.to_come (event_of buf given ∷ []) after.to_come

-- numbers put in rising order are the same numbers, each at most those after it
abbrev pub NumbersArePutInOrder : Type 0
NumbersArePutInOrder = (numbers : List ℕ) → IsRising (rising numbers) × IsPermutation numbers (rising numbers)
