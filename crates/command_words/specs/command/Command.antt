-- What the words ask for: the commands, and the words that write each.
use Rattle.std.specs.Prelude.{◌≡◌, ℕ, Bool, List, [], ◌∷◌, length, ◌==◌, Option, Some, None, option_copied}
use Rattle.command_words.specs.declared.command.Command.{Command}
use Rattle.command_words.specs.declared.command.Command.TheVariants as command
use Rattle.command_words.specs.declared.command.Serving.{Serving}
use Rattle.command_words.specs.declared.number.NumberRange.{NumberRange}
use Rattle.command_words.specs.declared.table.CommandName.{CommandName}
use Rattle.command_words.specs.declared.table.CommandName.TheVariants as commands
use Rattle.command_words.specs.declared.table.OptionName.TheVariants as options
use Rattle.command_words.specs.declared.table.Sought.TheVariants.{Operands, Arguments}
use Rattle.command_words.specs.Table.{row_of}
use Rattle.command_words.specs.command.Line.{Line, IsLine, line_words, texts_of}
use Rattle.command_words.specs.Number.{SaysNumber, IsNumberWithin}
use Rattle.command_words.specs.Address.{IsAddress}

-- what serving is asked for: the data file, the address, after how many connections it ends, how many events are heard,
-- how many MiB all queues may have, after how many seconds of silence a connection ends, how many entries one search is
-- given, and the file of changes where there is one
pub record ServingView : Type 0 where
  pub data_file : List ℕ
  pub address : List ℕ
  pub sessions : ℕ
  pub turns : ℕ
  pub queues : ℕ
  pub idle : ℕ
  pub limit : ℕ
  pub changes : Option (List ℕ)

-- what words may ask for, with texts as octets
pub data CommandView : Type 0 where
  Serve : (serving : ServingView) → CommandView
  Replay : (data_file script : List ℕ) (turns : ℕ) (dump : Bool) → CommandView
  Check : (data_file : List ℕ) (changes : Option (List ℕ)) → CommandView
  Why : (data_file : List ℕ) → CommandView
  Dump : (data_file : List ℕ) (changes : Option (List ℕ)) → CommandView
  Explain : (data_file who target item permission : List ℕ) → CommandView
  Sample : (count : ℕ) → CommandView
  Ask : (data_file requests : List ℕ) (script : Bool) → CommandView
  Prove : (data_file who target item permission : List ℕ) → CommandView
  Verify : (data_file certificate : List ℕ) → CommandView
  Rights : (data_file who target : List ℕ) → CommandView
  Help : CommandView
  Version : CommandView

-- serving as it is read, with its texts as octets
abbrev pub serving_view : Serving → ServingView
serving_view serving = record {
  data_file = serving.«data».now;
  address = serving.address.now;
  sessions = serving.sessions;
  turns = serving.turns;
  queues = serving.queues;
  idle = serving.idle;
  limit = serving.limit;
  changes = option_copied serving.changes;
}

-- a command as it is read, with its texts as octets
abbrev pub view : Command → CommandView
view (command.Serve serving) = Serve (serving_view serving)
view (command.Replay replaying) = Replay replaying.«data».now replaying.script.now replaying.turns replaying.dump
view (command.Check loading) = Check loading.«data».now (option_copied loading.changes)
view (command.Why data_file) = Why data_file.now
view (command.Dump loading) = Dump loading.«data».now (option_copied loading.changes)
view (command.Explain deciding) = Explain deciding.«data».now deciding.who.now deciding.target.now deciding.item.now deciding.permission.now
view (command.Sample count) = Sample count
view (command.Ask asking) = Ask asking.«data».now asking.requests.now asking.script
view (command.Prove deciding) = Prove deciding.«data».now deciding.who.now deciding.target.now deciding.item.now deciding.permission.now
view (command.Verify verifying) = Verify verifying.«data».now verifying.certificate.now
view (command.Rights rights) = Rights rights.«data».now rights.who.now rights.target.now
view command.Help = Help
view command.Version = Version

-- after how many connections the serving ends: never, where the words don't say
abbrev pub sessions_range : NumberRange
sessions_range = record { absent = 0; least = 0; greatest = 18446744073709551615 }

-- how many events are heard
abbrev pub turns_range : NumberRange
turns_range = record { absent = 1000000000000; least = 0; greatest = 18446744073709551615 }

-- how many MiB the queues of all connections may have
abbrev pub queues_range : NumberRange
queues_range = record { absent = 256; least = 1; greatest = 65536 }

-- after how many seconds of silence a connection ends: never, where the words don't say
abbrev pub idle_range : NumberRange
idle_range = record { absent = 0; least = 1; greatest = 4294967295 }

-- how many entries one search is given: all, where the words don't say; else at most the greatest sizeLimit (RFC 4511 4.5.1)
abbrev pub limit_range : NumberRange
limit_range = record { absent = 0; least = 1; greatest = 2147483647 }

-- a count of persons in one to twenty decimal digits, from 1 to 20,000
abbrev pub IsCount : List ℕ → ℕ → Type 0
IsCount text count = IsNumberWithin 20 1 20000 text count

-- the arguments of an option say this text, which is kept as it is: none, where the option isn't given
abbrev pub SaysText : List (List ℕ) → Option (List ℕ) → Type 0
SaysText [] said = said ≡ None
SaysText (text ∷ []) said = said ≡ Some text
SaysText (text ∷ again ∷ texts) said = ⊥

-- what a line of `serve` says: its operands, a number for each option but the last, and the file of changes
pub record SaysServing (line : Line) (serving : ServingView) : Type 0 where
  pub operands : texts_of Operands line ≡ serving.data_file ∷ serving.address ∷ []
  pub address : IsAddress serving.address
  pub sessions : SaysNumber sessions_range (texts_of (Arguments options.Sessions) line) serving.sessions
  pub turns : SaysNumber turns_range (texts_of (Arguments options.Turns) line) serving.turns
  pub queues : SaysNumber queues_range (texts_of (Arguments options.Queues) line) serving.queues
  pub idle : SaysNumber idle_range (texts_of (Arguments options.Idle) line) serving.idle
  pub limit : SaysNumber limit_range (texts_of (Arguments options.Limit) line) serving.limit
  pub changes : SaysText (texts_of (Arguments options.Changes) line) serving.changes

-- the command that a command's line says: its operands, its numbers and texts, and whether it has a flag; a check whose
-- line has `--why` has no file of changes
abbrev pub Says : CommandName → Line → CommandView → Type 0
Says commands.Serve line (Serve serving) = SaysServing line serving
Says commands.Replay line (Replay data_file script turns dump) =
    (texts_of Operands line ≡ data_file ∷ script ∷ [])
    × SaysNumber turns_range (texts_of (Arguments options.Turns) line) turns
    × (dump ≡ (length (texts_of (Arguments options.Dump) line) == 1))
Says commands.Check line (Check data_file changes) =
    (texts_of Operands line ≡ data_file ∷ []) × SaysText (texts_of (Arguments options.Changes) line) changes
    × (texts_of (Arguments options.Why) line ≡ [])
Says commands.Check line (Why data_file) =
    (texts_of Operands line ≡ data_file ∷ []) × (texts_of (Arguments options.Changes) line ≡ [])
    × (length (texts_of (Arguments options.Why) line) ≡ 1)
Says commands.Dump line (Dump data_file changes) =
    (texts_of Operands line ≡ data_file ∷ []) × SaysText (texts_of (Arguments options.Changes) line) changes
Says commands.Explain line (Explain data_file who target item permission) =
    texts_of Operands line ≡ data_file ∷ who ∷ target ∷ item ∷ permission ∷ []
Says commands.Sample line (Sample count) = (text : List ℕ) × (texts_of Operands line ≡ text ∷ []) × IsCount text count
Says commands.Ask line (Ask data_file requests script) =
    (texts_of Operands line ≡ data_file ∷ requests ∷ []) × (script ≡ (length (texts_of (Arguments options.Script) line) == 1))
Says commands.Prove line (Prove data_file who target item permission) =
    texts_of Operands line ≡ data_file ∷ who ∷ target ∷ item ∷ permission ∷ []
Says commands.Verify line (Verify data_file certificate) = texts_of Operands line ≡ data_file ∷ certificate ∷ []
Says commands.Rights line (Rights data_file who target) = texts_of Operands line ≡ data_file ∷ who ∷ target ∷ []
Says commands.Help line Help = texts_of Operands line ≡ []
Says commands.Version line Version = texts_of Operands line ≡ []
Says name line asked = ⊥

-- the words are a command's name and a line of it that says this command
pub record IsCommand (words : List (List ℕ)) (asked : CommandView) : Type 0 where
  pub name : CommandName
  pub line : Line
  pub words_are : words ≡ (row_of name).name ∷ line_words line
  pub is_line : IsLine (row_of name) line
  pub says : Says name line asked
