-- The lines of a replay: for each connection its number, what was sent to it in hexadecimal (RFC 4648 8), and whether
-- it was hung up.
use Rattle.std.specs.Prelude.{ℕ, Bool, true, false, List, [], ◌∷◌, ◌++◌, take, codes, decimal, flat_map}
use Rattle.command_files.specs.hex.Hex.{encode_lower}
use Rattle.command_files.specs.script_text.declared.event.ScriptEvent.{ScriptEvent}
use Rattle.command_files.specs.wire_io.declared.journal.Event.{Event}
use Rattle.command_files.specs.wire_io.Pieces.{pieces}
use Rattle.command_files.specs.wire_io.Rising.{rising}
use Rattle.session_hub.specs.session_model.Run.{Sessions}
use Rattle.session_hub.specs.session_model.Replaying.{replayed, is_away}
use Rattle.session_hub.specs.session_model.Journaled.{steps_of_events}
use Rattle.session_hub.specs.Parties.{DirectoryEntries, Requester}
use Rattle.session_hub.specs.Answering.{rules}
use Rattle.session_hub.specs.serve.Loops.{buffer_length}
use Rattle.session_hub.specs.Terms.{no_terms}

-- octets in hexadecimal with lower-case letters, or `-` where there are none
abbrev pub shown : List ℕ → List ℕ
shown [] = codes "-"
shown (octet ∷ octets) = encode_lower (octet ∷ octets)

-- ` closed` where the connection was hung up
abbrev pub ending : Bool → List ℕ
ending true = codes " closed"
ending false = []

-- the line of a connection, by its number, what was sent to it, and whether it was hung up
unfoldable pub line_of : ℕ → List ℕ → Bool → List ℕ
line_of conn sent hung_up = decimal conn ++ (codes " " ++ (shown sent ++ (ending hung_up ++ codes "\n")))

-- the lines of all connections opened, in the rising order of their numbers
unfoldable pub lines_of : Sessions DirectoryEntries Requester → List ℕ
lines_of u = flat_map (λ conn. line_of conn (u.of conn).reply (is_away (u.of conn).state)) (rising u.opened)

-- the events that a loop of so many turns hears of a script, long ones in pieces of the loop's buffer
abbrev pub heard_of : List ScriptEvent → ℕ → List Event
heard_of events turns = take turns (pieces buffer_length events)

-- the sessions after those events over these entries, where each connection that closes is hung up at once, and searches
-- have no limit but their own
abbrev pub replay_of : DirectoryEntries → List ScriptEvent → ℕ → Sessions DirectoryEntries Requester
replay_of entries events turns = replayed (rules no_terms) entries (steps_of_events (heard_of events turns))

-- all that is sent to connection 1 over these entries where all of these events are heard
unfoldable pub sent_over : DirectoryEntries → List ScriptEvent → List ℕ
sent_over entries events = ((replayed (rules no_terms) entries (steps_of_events (pieces buffer_length events))).of 1).reply

-- the text of a replay: the lines after them
unfoldable pub replay_text : DirectoryEntries → List ScriptEvent → ℕ → List ℕ
replay_text entries events turns = lines_of (replay_of entries events turns)

-- the entries that a replay leaves
unfoldable pub entries_after : DirectoryEntries → List ScriptEvent → ℕ → DirectoryEntries
entries_after entries events turns = (replay_of entries events turns).tree
