-- The event of a link, as its journal has it and as a hub hears it.
use Rattle.std.specs.Prelude.{◌≡◌, ℕ}
use Rattle.session_model.specs.wire_io.declared.journal.Event.{Event as JournalEvent}
use Rattle.session_model.specs.wire_io.declared.journal.Event.TheVariants as journal_event
use Rattle.session_hub.specs.declared.event.Event.{Event}
use Rattle.session_hub.specs.declared.event.Event.TheVariants as event

-- the event as the link's journal has it
abbrev pub journal_event_of : Event → JournalEvent
journal_event_of (event.Opened number) = journal_event.Opened number
journal_event_of (event.Bytes number octets) = journal_event.Bytes number octets.now
journal_event_of (event.Ended number) = journal_event.Ended number

-- octets of this connection, or its end
abbrev pub IsOf : ℕ → Event → Type 0
IsOf conn (event.Opened number) = ⊥
IsOf conn (event.Bytes number octets) = number ≡ conn
IsOf conn (event.Ended number) = number ≡ conn
