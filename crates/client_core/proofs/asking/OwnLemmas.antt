-- Each request has a written form: a bind has a password.
use Rattle.std.proofs.Common.{◌≡◌, ℕ, ◌+◌, Bool, true, false, List, [], ◌∷◌, length, Option, Some, None, Result, Ok, Err, sym, subst}
use Rattle.std.proofs.lemmas.List.Elements.{All-push}
use Rattle.std.specs.Prelude.{codes, if◌then◌else◌}
use Rattle.std.specs.Str.{bytes_eq}
use Rattle.ldap_msg.specs.reading.Messages.{HasOwnTag}
use Rattle.ldif_records.specs.declared.types.Record.{Record}
use Rattle.ldif_records.specs.declared.types.RecordLine.{RecordLine}
use Rattle.client_core.specs.declared.types.Asked.{Asked}
use Rattle.client_core.specs.declared.words.Word.{Word}
use Rattle.client_core.specs.declared.words.Word.TheVariants as word
use Rattle.client_core.specs.Words.{word_of}
use Rattle.client_core.specs.Faults.{bad_line}
use Rattle.client_core.specs.Requests.{request_of}
use Rattle.client_core.specs.Asks.{unless, asked_for, worded, asked_by, ask_of, AreSendable}
use Rattle.client_core.specs.Steps.{IsPut}

-- the request has a written form
abbrev IsOwn : Asked → Type 0
IsOwn asked = HasOwnTag asked.message.request

own-request : (asks : Word) (name : List ℕ) (lines : List RecordLine) → HasOwnTag (request_of asks name lines)
own-request word.Bind name lines = tt
own-request word.Search name lines = tt
own-request word.Compare name lines = tt
own-request word.Add name lines = tt
own-request word.Modify name lines = tt
own-request word.Rename name lines = tt
own-request word.Delete name lines = tt
own-request word.WhoAmI name lines = tt
own-request word.Unbind name lines = tt

own-unless : (bad : Option ℕ) (this asked : Asked) → IsOwn this → unless bad this ≡ Ok asked → IsOwn asked
own-unless None this asked own is = let same : this ≡ asked = cc in subst IsOwn same own
own-unless (Some line) this asked own is = absurd cc

own-worded : (number : ℕ) (given : Record) (found : Option Word) (line : ℕ) (lines : List RecordLine) (asked : Asked) → worded number given found line lines ≡ Ok asked → IsOwn asked
own-worded number given None line lines asked is = absurd cc
own-worded number given (Some asks) line lines asked is =
    own-unless (bad_line asks given line lines) (asked_for number given asks lines) asked (own-request asks given.name lines) is

own-if : (is_do : Bool) (line : ℕ) (asks : Result Asked ℕ) (asked : Asked) → (if is_do then asks else Err line) ≡ Ok asked → asks ≡ Ok asked
own-if true line asks asked is = is
own-if false line asks asked is = absurd cc

own-lines : (number : ℕ) (given : Record) (lines : List RecordLine) (asked : Asked) → asked_by number given lines ≡ Ok asked → IsOwn asked
own-lines number given [] asked is = absurd cc
own-lines number given (first ∷ lines) asked is =
    own-worded number given (word_of first.value) first.line lines asked
    (own-if (bytes_eq first.kind (codes "do")) given.line (worded number given (word_of first.value) first.line lines) asked is)

-- that of a record
pub own-record : (number : ℕ) (given : Record) (asked : Asked) → ask_of number (Ok given) ≡ Ok asked → HasOwnTag asked.message.request
own-record number given asked is = own-lines number given given.lines asked is

-- a request more stays so
pub sendable-put : (old : List Asked) (given : Record) (new : List Asked) → IsPut old given new → AreSendable old → AreSendable new
sendable-put old given new put all =
    subst AreSendable (sym put.put) (All-push IsOwn old put.asked all (own-record (length old + 1) given put.asked put.exact))
