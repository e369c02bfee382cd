-- The connection that sends requests: its events, and its script.
use Rattle.std.specs.Prelude.{ℕ, List, [], ◌∷◌, ◌++◌, map, codes}
use Rattle.std.specs.List.{flat_map, AllByRecursion}
use Rattle.script_text.specs.hex.Hex.{encode_lower, IsBytes}
use Rattle.script_text.specs.declared.event.ScriptEvent.{ScriptEvent}
use Rattle.script_text.specs.declared.event.ScriptEvent.TheVariants as event
use Rattle.ldap_msg.specs.reading.Messages.{request_octets}
use Rattle.client_core.specs.declared.types.Asked.{Asked}

-- the event of a request: its message comes
abbrev pub sent : Asked → ScriptEvent
sent ask = event.Bytes 1 (request_octets ask.message)

-- connection 1 is opened, and each message comes in an event of its own
unfoldable pub ask_events : List Asked → List ScriptEvent
ask_events asked = event.Opened 1 ∷ map sent asked

-- the line of a request
abbrev pub send_line : Asked → List ℕ
send_line ask = codes "send 1 " ++ (encode_lower (request_octets ask.message) ++ 10 ∷ [])

-- the script of the events
unfoldable pub ask_script : List Asked → List ℕ
ask_script asked = codes "open 1\n" ++ flat_map send_line asked

-- the messages are of octets
abbrev pub HaveOctets : List Asked → Type 0
HaveOctets asked = AllByRecursion (λ ask. IsBytes (request_octets ask.message)) asked
