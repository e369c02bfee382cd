-- The events of a script in pieces of one buffer's length, and how far events heard have come in it.
use Rattle.std.specs.Prelude.{◌≡◌, ℕ, zero, suc, List, [], ◌∷◌, ◌++◌, map, take, drop, length}
use Rattle.script_text.specs.declared.event.ScriptEvent.{ScriptEvent}
use Rattle.script_text.specs.declared.event.ScriptEvent.TheVariants as script
use Rattle.wire_io.specs.declared.journal.Event.{Event}
use Rattle.wire_io.specs.declared.journal.Event.TheVariants.{Opened, Bytes, Ended, Ready, Idle, Stop}

-- octets cut into pieces of the length, the last one shorter; there are at most as many as octets
unfoldable pub cut : ℕ → ℕ → List ℕ → List (List ℕ)
cut zero len octets = []
cut (suc most) len [] = []
cut (suc most) len (octet ∷ octets) = take len (octet ∷ octets) ∷ cut most len (drop len (octet ∷ octets))

-- the pieces in which a planned event comes
unfoldable pub pieces_of : ℕ → ScriptEvent → List Event
pieces_of len (script.Opened conn) = Opened conn ∷ []
pieces_of len (script.Bytes conn octets) = Bytes conn (take len octets) ∷ map (Bytes conn) (cut (length octets) len (drop len octets))
pieces_of len (script.Ended conn) = Ended conn ∷ []

-- the pieces of all planned events, in order
unfoldable pub pieces : ℕ → List ScriptEvent → List Event
pieces len [] = []
pieces len (event ∷ events) = pieces_of len event ++ pieces len events

-- an event that brings a script on, alone in a list; Ready, Idle and Stop don't
unfoldable pub step_of : Event → List Event
step_of (Opened conn) = Opened conn ∷ []
step_of (Bytes conn octets) = Bytes conn octets ∷ []
step_of (Ended conn) = Ended conn ∷ []
step_of (Ready conn) = []
step_of Idle = []
step_of Stop = []

-- the events that bring a script on, in order
unfoldable pub steps_of : List Event → List Event
steps_of [] = []
steps_of (event ∷ events) = step_of event ++ steps_of events

-- with a buffer of one length the events heard brought the script on: they and the pieces still to
-- come are the pieces that were to come before
unfoldable pub Plays : ℕ → List ScriptEvent → List Event → List ScriptEvent → Type 0
Plays len before events after = pieces len before ≡ steps_of events ++ pieces len after
