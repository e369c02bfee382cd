-- The parser of a command as clap builds it: its arguments, and what is found among them.
use Rattle.std.proofs.Common.{◌≡◌, ◌∙◌, ◌&&◌, not, is_some, ℕ, Bool, true, false, cond, List, [], ◌∷◌, map, Some, None, option_map, refl, sym, ap}
use Rattle.std.specs.Prelude.{bytes_eq, codes, find}
use Rattle.std.proofs.lemmas.Slice.Eq.{bytes_eq-Decides}
use Rattle.std.proofs.Math.Bool.{or-false}
use Rattle.clap.specs.Simple.{App, Shape, new_rule, new_shape, built}
use Rattle.clap.specs.Walk.{Rule, Text, arg_by_id, arg_by_long, arg_by_short, has_long, has_short}
use Rattle.clap.specs.Faults.{is_simple_and_free}
use Rattle.clap.specs.declared.builder.action.ArgAction.TheVariants.{Set, SetTrue, Append}
use Rattle.clap.specs.declared.builder.value_parser.ValueParser.TheVariants as vp
use Rattle.command_words.specs.declared.table.CommandName.{CommandName}
use Rattle.command_words.specs.declared.table.CommandName.TheVariants as commands
use Rattle.command_words.specs.declared.table.OptionName.{OptionName}
use Rattle.command_words.specs.declared.table.OptionName.TheVariants as options
use Rattle.command_words.specs.Table.{Row, row_of, option_word, takes_argument, option_named}
use Rattle.command_words.specs.parser.Parser.{app_for}

-- the argument that takes all operands
abbrev pub operand : Rule
operand = record (new_rule (codes "operands")) {
  action = Some Append;
  index = Some 1;
  range = Some (record { start_inclusive = 1; end_inclusive = 1 });
  parser = Some vp.String;
}

-- an option with a value, or a flag
abbrev pub option_by : Bool → Text → Rule
option_by true word = record (new_rule word) {
  long = Some word;
  action = Some Set;
  range = Some (record { start_inclusive = 1; end_inclusive = 1 });
  parser = Some vp.String;
}
option_by false word = record (new_rule word) {
  long = Some word;
  action = Some SetTrue;
  range = Some (record { start_inclusive = 0; end_inclusive = 0 });
  parser = Some vp.Bool;
  defaults = codes "false" ∷ [];
  missing = codes "true" ∷ [];
}

abbrev pub option : OptionName → Rule
option name = option_by (takes_argument name) (option_word name)

-- the arguments of a row
abbrev pub rules : Row → List Rule
rules row = operand ∷ map option row.options

abbrev pub shape : Row → Shape
shape row = record (new_shape row.name) {
  rules = rules row;
  no_binary_name = true;
  disable_help_flag = true;
  disable_help_subcommand = true;
  is_built = true;
}

abbrev pub app : Row → App
app row = record { top = shape row; subs = [] }

-- what clap builds of each command
pub built-is : (name : CommandName) → built (app_for (row_of name)) ≡ app (row_of name)
built-is commands.Serve = refl
built-is commands.Replay = refl
built-is commands.Check = refl
built-is commands.Dump = refl
built-is commands.Explain = refl
built-is commands.Sample = refl
built-is commands.Ask = refl
built-is commands.Prove = refl
built-is commands.Verify = refl
built-is commands.Rights = refl
built-is commands.Help = refl
built-is commands.Version = refl

pub is-simple : (name : CommandName) → is_simple_and_free (app_for (row_of name)) ≡ true
is-simple commands.Serve = refl
is-simple commands.Replay = refl
is-simple commands.Check = refl
is-simple commands.Dump = refl
is-simple commands.Explain = refl
is-simple commands.Sample = refl
is-simple commands.Ask = refl
is-simple commands.Prove = refl
is-simple commands.Verify = refl
is-simple commands.Rights = refl
is-simple commands.Help = refl
is-simple commands.Version = refl

-- a search among arguments is one among options
find-option : (test : Rule → Bool) (own : OptionName → Bool) → ((name : OptionName) → test (option name) ≡ own name) → (names : List OptionName) → find test (map option names) ≡ option_map option (find own names)
find-option test own same [] = refl
find-option test own same (name ∷ names) = rw (same name) (step (own name) (find-option test own same names))
  where
    step : (b : Bool) → find test (map option names) ≡ option_map option (find own names) → cond b (Some (option name)) (find test (map option names)) ≡ option_map option (cond b (Some name) (find own names))
    step true later = refl
    step false later = later

find-none : (names : List OptionName) → find (λ (name : OptionName). false) names ≡ None
find-none [] = refl
find-none (name ∷ names) = find-none names

pub bytes_eq-back : (one other : Text) → bytes_eq one other ≡ bytes_eq other one
bytes_eq-back one other = elim (bytes_eq one other) as (λ (b : Bool). bytes_eq one other ≡ b → b ≡ bytes_eq other one) [
  | true ↦ λ is. sym (ap (bytes_eq other) ((bytes_eq-Decides one other).0 is) ∙ (bytes_eq-Decides other other).1 refl)
  | false ↦ λ differs. elim (bytes_eq other one) as (λ (b : Bool). bytes_eq other one ≡ b → false ≡ b) [
    | true ↦ λ is. sym differs ∙ ap (bytes_eq one) ((bytes_eq-Decides other one).0 is) ∙ (bytes_eq-Decides one one).1 refl
    | false ↦ λ none. refl
  ] refl
] refl

-- what is found of an argument is the same of each option, by whether it has a value
id-is : (text : Text) (name : OptionName) → bytes_eq (option name).id text ≡ bytes_eq text (option_word name)
id-is text name = by (takes_argument name)
  where
    by : (takes : Bool) → bytes_eq (option_by takes (option_word name)).id text ≡ bytes_eq text (option_word name)
    by true = bytes_eq-back (option_word name) text
    by false = bytes_eq-back (option_word name) text

-- by its long name an option of the row is found, and nothing else
pub by-long : (row : Row) (text : Text) → arg_by_long (rules row) text ≡ option_map option (option_named row text)
by-long row text = find-option _ (λ (name : OptionName). bytes_eq text (option_word name)) same row.options
  where
    by : (takes : Bool) (word : Text) → (not (is_some (option_by takes word).index) && has_long (option_by takes word) text) ≡ bytes_eq text word
    by true word = or-false _ ∙ bytes_eq-back word text
    by false word = or-false _ ∙ bytes_eq-back word text

    same : (name : OptionName) → (not (is_some (option name).index) && has_long (option name) text) ≡ bytes_eq text (option_word name)
    same name = by (takes_argument name) (option_word name)

-- by its name
pub by-id : (row : Row) (name : OptionName) → option_named row (option_word name) ≡ Some name → arg_by_id (rules row) (option_word name) ≡ Some (option name)
by-id row name named = other name ∙ find-option _ (λ (own : OptionName). bytes_eq (option_word name) (option_word own)) (id-is (option_word name)) row.options ∙ ap (option_map option) named
  where
    other : (name : OptionName) → arg_by_id (rules row) (option_word name) ≡ find (λ (rule : Rule). bytes_eq rule.id (option_word name)) (map option row.options)
    other options.Sessions = refl
    other options.Turns = refl
    other options.Queues = refl
    other options.Idle = refl
    other options.Limit = refl
    other options.Dump = refl
    other options.Script = refl
    other options.Changes = refl
    other options.Why = refl

-- nothing has a name of one character
pub by-short : (row : Row) (x : ℕ) → arg_by_short (rules row) x ≡ None
by-short row x = find-option _ (λ (name : OptionName). false) same row.options ∙ ap (option_map option) (find-none row.options)
  where
    by : (takes : Bool) (word : Text) → (not (is_some (option_by takes word).index) && has_short (option_by takes word) x) ≡ false
    by true word = refl
    by false word = refl

    same : (name : OptionName) → (not (is_some (option name).index) && has_short (option name) x) ≡ false
    same name = by (takes_argument name) (option_word name)
