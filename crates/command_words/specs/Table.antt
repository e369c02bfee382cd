-- The program's commands, one row each: the name, how many operands it takes, and its options.
-- Operands, options and option-arguments are those of POSIX.1, Utility Conventions (12.1); the options are GNU's long ones.
use Rattle.std.specs.Prelude.{ℕ, Bool, true, false, List, [], ◌∷◌, Option, bytes_eq, codes, find}
use Rattle.command_words.specs.declared.table.CommandName.{CommandName}
use Rattle.command_words.specs.declared.table.CommandName.TheVariants as commands
use Rattle.command_words.specs.declared.table.OptionName.{OptionName}
use Rattle.command_words.specs.declared.table.OptionName.TheVariants as options

-- what a command takes after its name
pub record Row : Type 0 where
  pub name : List ℕ
  pub operands : ℕ
  pub options : List OptionName

-- the table of commands
abbrev pub row_of : CommandName → Row
row_of commands.Serve = record { name = codes "serve"; operands = 2; options = options.Sessions ∷ options.Turns ∷ options.Queues ∷ options.Idle ∷ options.Limit ∷ options.Changes ∷ [] }
row_of commands.Replay = record { name = codes "replay"; operands = 2; options = options.Dump ∷ options.Turns ∷ [] }
row_of commands.Check = record { name = codes "check"; operands = 1; options = options.Changes ∷ options.Why ∷ [] }
row_of commands.Dump = record { name = codes "dump"; operands = 1; options = options.Changes ∷ [] }
row_of commands.Explain = record { name = codes "explain"; operands = 5; options = [] }
row_of commands.Sample = record { name = codes "sample"; operands = 1; options = [] }
row_of commands.Ask = record { name = codes "ask"; operands = 2; options = options.Script ∷ [] }
row_of commands.Prove = record { name = codes "prove"; operands = 5; options = [] }
row_of commands.Verify = record { name = codes "verify"; operands = 2; options = [] }
row_of commands.Rights = record { name = codes "rights"; operands = 3; options = [] }
row_of commands.Help = record { name = codes "--help"; operands = 0; options = [] }
row_of commands.Version = record { name = codes "--version"; operands = 0; options = [] }

-- all commands
abbrev pub all_commands : List CommandName
all_commands = commands.Serve ∷ commands.Replay ∷ commands.Check ∷ commands.Dump ∷ commands.Explain ∷ commands.Sample ∷ commands.Ask ∷ commands.Prove ∷ commands.Verify ∷ commands.Rights ∷ commands.Help ∷ commands.Version ∷ []

-- the table of options: what follows the two dashes
abbrev pub option_word : OptionName → List ℕ
option_word options.Sessions = codes "sessions"
option_word options.Turns = codes "turns"
option_word options.Queues = codes "queues"
option_word options.Idle = codes "idle"
option_word options.Limit = codes "limit"
option_word options.Dump = codes "dump"
option_word options.Script = codes "script"
option_word options.Changes = codes "changes"
option_word options.Why = codes "why"

-- whether the option has an argument
abbrev pub takes_argument : OptionName → Bool
takes_argument options.Sessions = true
takes_argument options.Turns = true
takes_argument options.Queues = true
takes_argument options.Idle = true
takes_argument options.Limit = true
takes_argument options.Dump = false
takes_argument options.Script = false
takes_argument options.Changes = true
takes_argument options.Why = false

-- the same option: of one word
abbrev pub is_same_option : OptionName → OptionName → Bool
is_same_option one other = bytes_eq (option_word one) (option_word other)

-- the command of this name
abbrev pub command_named : List ℕ → Option CommandName
command_named word = find (λ command. bytes_eq word (row_of command).name) all_commands

-- the option of a command that has this name
abbrev pub option_named : Row → List ℕ → Option OptionName
option_named row word = find (λ name. bytes_eq word (option_word name)) row.options
