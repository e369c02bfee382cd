-- The requests that a text of records asks for, or its first line that is at fault.
use Rattle.std.specs.Prelude.{ℕ, ◌+◌, List, [], ◌∷◌, codes, All, Option, Some, None, Result, Ok, Err, if◌then◌else◌}
use Rattle.std.specs.Str.{bytes_eq}
use Rattle.ldap_msg.specs.plain_values.Results.{◌>>=◌}
use Rattle.ldap_msg.specs.reading.Messages.{HasOwnTag}
use Rattle.ldif_records.specs.declared.types.Record.{Record}
use Rattle.ldif_records.specs.declared.types.RecordLine.{RecordLine}
use Rattle.ldif_records.specs.reading.Faults.{LineFault, Bad}
use Rattle.ldif_records.specs.lines.Places.{file_start, records_from}
use Rattle.client_core.specs.declared.types.Asked.{Asked}
use Rattle.client_core.specs.declared.types.AskFault.{AskFault}
use Rattle.client_core.specs.declared.types.AskFault.TheVariants as fault
use Rattle.client_core.specs.declared.words.Word.{Word}
use Rattle.client_core.specs.Words.{word_of}
use Rattle.client_core.specs.Faults.{bad_line}
use Rattle.client_core.specs.Requests.{message_of}

-- the line that a fault tells; want of memory is none
abbrev pub line_of : AskFault → Option ℕ
line_of (fault.Bad line) = Some line
line_of fault.NoMemory = None

-- the request, unless a line is at fault
abbrev pub unless : Option ℕ → Asked → Result Asked ℕ
unless None asked = Ok asked
unless (Some line) asked = Err line

-- the request of the number, of a record with the operation and the lines behind `do`
abbrev pub asked_for : ℕ → Record → Word → List RecordLine → Asked
asked_for number given word lines = record { line = given.line; message = message_of number word given.name lines }

-- the same, unless a line is at fault, of a record with the operation, if the word is one, the number of its line `do`, and the
-- lines behind it
abbrev pub worded : ℕ → Record → Option Word → ℕ → List RecordLine → Result Asked ℕ
worded number given None line lines = Err line
worded number given (Some word) line lines = unless (bad_line word given line lines) (asked_for number given word lines)

-- the same, of a record with these lines: the first is `do`
abbrev pub asked_by : ℕ → Record → List RecordLine → Result Asked ℕ
asked_by number given [] = Err given.line
asked_by number given (first ∷ lines) =
    if bytes_eq first.kind (codes "do") then worded number given (word_of first.value) first.line lines else Err given.line

-- the same, of a record, if it was read
abbrev pub ask_of : ℕ → Result Record LineFault → Result Asked ℕ
ask_of number (Ok given) = asked_by number given given.lines
ask_of number (Err (Bad line cause)) = Err line

-- the requests of records, the first of which has the number, or the first line that is at fault
unfoldable pub asks_in : ℕ → List (Result Record LineFault) → Result (List Asked) ℕ
asks_in number [] = Ok []
asks_in number (given ∷ rest) = ask_of number given >>= λ first. asks_in (number + 1) rest >>= λ others. Ok (first ∷ others)

-- the requests of a text: the n-th is message n (RFC 4511 4.1.1.1)
unfoldable pub asks_of : List ℕ → Result (List Asked) ℕ
asks_of text = asks_in 1 (records_from text file_start)

-- each request has a written form
abbrev pub AreSendable : List Asked → Type 0
AreSendable asked = All (λ ask. HasOwnTag ask.message.request) asked
