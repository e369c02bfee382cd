-- What the kept texts of a command say, and what a reading of words has to give.
use Rattle.std.specs.Prelude.{◌≡◌, ℕ, Bool, true, false, List, length, Option, Some, None, ◌==◌, if◌then◌else◌}
pub use Rattle.plain_values.specs.Options.{◌>>=◌}
use Rattle.clap.specs.declared.parser.matches.ArgMatches.{ArgMatches}
use Rattle.command_words.specs.declared.table.CommandName.{CommandName}
use Rattle.command_words.specs.declared.table.CommandName.TheVariants as commands
use Rattle.command_words.specs.declared.table.OptionName.{OptionName}
use Rattle.command_words.specs.declared.table.OptionName.TheVariants as options
use Rattle.command_words.specs.declared.table.Sought.{Sought}
use Rattle.command_words.specs.declared.table.Sought.TheVariants.{Operands, Arguments}
use Rattle.command_words.specs.Table.{row_of}
use Rattle.command_words.specs.command.Line.{Line, IsLine, line_words}
use Rattle.command_words.specs.Number.{number_said, number_within}
use Rattle.command_words.specs.Address.{address_of}
use Rattle.command_words.specs.command.Command.{CommandView, Serve, Replay, Check, Why, Dump, Explain, Sample, Ask, Prove, Verify, Rights, Help, Version, Says, IsCommand, sessions_range, turns_range, queues_range, idle_range, limit_range}
use Rattle.command_words.specs.parser.Parser.{kept_in, kept_text, is_set}

-- the check that the name of a data file, that of a file of changes and a flag say: why is told of a data file alone
abbrev pub check_of : List ℕ → Option (List ℕ) → Bool → Option CommandView
check_of data_file changes false = Some (Check data_file changes)
check_of data_file None true = Some (Why data_file)
check_of data_file (Some changes) true = None

-- the command that texts say, and whether it has a flag: one case a command
unfoldable pub command_said : CommandName → (Sought → ℕ → Option (List ℕ)) → (OptionName → Bool) → Option CommandView
command_said commands.Serve text has = do
  data_file ← text Operands 0
  said ← text Operands 1
  address ← address_of said
  sessions ← number_said sessions_range (text (Arguments options.Sessions) 0)
  turns ← number_said turns_range (text (Arguments options.Turns) 0)
  queues ← number_said queues_range (text (Arguments options.Queues) 0)
  idle ← number_said idle_range (text (Arguments options.Idle) 0)
  limit ← number_said limit_range (text (Arguments options.Limit) 0)
  Some (Serve (record {
    data_file = data_file;
    address = address;
    sessions = sessions;
    turns = turns;
    queues = queues;
    idle = idle;
    limit = limit;
    changes = text (Arguments options.Changes) 0;
  }))
command_said commands.Replay text has = do
  data_file ← text Operands 0
  script ← text Operands 1
  turns ← number_said turns_range (text (Arguments options.Turns) 0)
  Some (Replay data_file script turns (has options.Dump))
command_said commands.Check text has = do
  data_file ← text Operands 0
  check_of data_file (text (Arguments options.Changes) 0) (has options.Why)
command_said commands.Dump text has = do
  data_file ← text Operands 0
  Some (Dump data_file (text (Arguments options.Changes) 0))
command_said commands.Explain text has = do
  data_file ← text Operands 0
  who ← text Operands 1
  target ← text Operands 2
  item ← text Operands 3
  permission ← text Operands 4
  Some (Explain data_file who target item permission)
command_said commands.Sample text has = do
  said ← text Operands 0
  count ← number_within 20 1 20000 said
  Some (Sample count)
command_said commands.Ask text has = do
  data_file ← text Operands 0
  requests ← text Operands 1
  Some (Ask data_file requests (has options.Script))
command_said commands.Prove text has = do
  data_file ← text Operands 0
  who ← text Operands 1
  target ← text Operands 2
  item ← text Operands 3
  permission ← text Operands 4
  Some (Prove data_file who target item permission)
command_said commands.Verify text has = do
  data_file ← text Operands 0
  certificate ← text Operands 1
  Some (Verify data_file certificate)
command_said commands.Rights text has = do
  data_file ← text Operands 0
  who ← text Operands 1
  target ← text Operands 2
  Some (Rights data_file who target)
command_said commands.Help text has = Some Help
command_said commands.Version text has = Some Version

-- how many texts are kept
abbrev pub kept_count : Option (List (List ℕ)) → ℕ
kept_count None = 0
kept_count (Some texts) = length texts

-- the same of what is kept
abbrev pub kept_said : CommandName → (Sought → Option (List (List ℕ))) → Option CommandView
kept_said name kept = command_said name (λ sought index. kept_text (kept sought) index) (λ option. is_set (kept_text (kept (Arguments option)) 0))

-- where there are as many operands as the command wants
unfoldable pub said_by : CommandName → (Sought → Option (List (List ℕ))) → Option CommandView
said_by name kept = if kept_count (kept Operands) == (row_of name).operands then kept_said name kept else None

-- the words after a command's name are a line of it that says this command
pub record IsAsked (name : CommandName) (words : List (List ℕ)) (asked : CommandView) : Type 0 where
  pub line : Line
  pub words_are : words ≡ line_words line
  pub is_line : IsLine (row_of name) line
  pub says : Says name line asked

-- what is read of the words after a command's name is what they ask for
pub record IsRead (name : CommandName) (words : List (List ℕ)) (read : Option CommandView) : Type 0 where
  pub found : (asked : CommandView) → read ≡ Some asked → IsAsked name words asked
  pub only : (asked : CommandView) → IsAsked name words asked → read ≡ Some asked

-- the same of all words
pub record IsReading (words : List (List ℕ)) (read : Option CommandView) : Type 0 where
  pub found : (asked : CommandView) → read ≡ Some asked → IsCommand words asked
  pub only : (asked : CommandView) → IsCommand words asked → read ≡ Some asked

-- matches keep what the words ask for; where there are none, the words ask for nothing
abbrev pub Parses : CommandName → List (List ℕ) → Option ArgMatches → Type 0
Parses name words None = IsRead name words None
Parses name words (Some matches) = IsRead name words (said_by name (kept_in matches))
