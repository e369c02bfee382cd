-- What clap is told of a command, and what it keeps of the words: texts under the name of what was sought.
use Rattle.std.specs.Prelude.{ℕ, Bool, true, false, List, ◌∷◌, Option, Some, None, codes, map, option_and_then, slice_get, bytes_eq}
use Rattle.clap.specs.Simple.{App, new_app, new_rule, on_top}
use Rattle.clap.specs.Walk.{Rule, all_of, rows_of}
use Rattle.clap.specs.Matches.{found_of}
use Rattle.clap.specs.declared.builder.action.ArgAction.TheVariants.{Append, SetTrue}
use Rattle.clap.specs.declared.parser.matches.ArgMatches.{ArgMatches}
use Rattle.command_words.specs.declared.table.OptionName.{OptionName}
use Rattle.command_words.specs.declared.table.Sought.{Sought}
use Rattle.command_words.specs.declared.table.Sought.TheVariants.{Operands, Arguments}
use Rattle.command_words.specs.Table.{Row, option_word, takes_argument}

-- the name under which clap keeps what is sought
abbrev pub id_of : Sought → List ℕ
id_of Operands = codes "operands"
id_of (Arguments name) = option_word name

-- one argument takes all operands
abbrev pub operand_rule : Rule
operand_rule = record (new_rule (codes "operands")) { action = Some Append }

-- `--word` with a value, or as a flag
abbrev pub option_rule_by : Bool → List ℕ → Rule
option_rule_by true word = record (new_rule word) { long = Some word }
option_rule_by false word = record (new_rule word) { long = Some word; action = Some SetTrue }

-- an option of the table
abbrev pub option_rule : OptionName → Rule
option_rule name = option_rule_by (takes_argument name) (option_word name)

-- a parser of operands and these options, with nothing of its own
abbrev pub app_with : List ℕ → List OptionName → App
app_with name options = on_top (λ shape. record shape { no_binary_name = true; disable_help_flag = true; rules = operand_rule ∷ map option_rule options }) (new_app name)

-- the parser of a row
abbrev pub app_for : Row → App
app_for row = app_with row.name row.options

-- what the matches keep of what is sought
abbrev pub kept_in : ArgMatches → Sought → Option (List (List ℕ))
kept_in matches sought = all_of (id_of sought) (rows_of (found_of matches))

-- a kept text, by its index
abbrev pub kept_text : Option (List (List ℕ)) → ℕ → Option (List ℕ)
kept_text kept index = option_and_then (λ texts. slice_get texts index) kept

-- a flag is kept as the text `true` where it is given, and else as `false`
abbrev pub is_set : Option (List ℕ) → Bool
is_set None = false
is_set (Some text) = bytes_eq text (codes "true")
