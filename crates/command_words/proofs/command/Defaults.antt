-- What the defaults at the end of a parse change: a flag that isn't given is kept as `false`.
use Rattle.std.proofs.Common.{◌≡◌, ◌∙◌, ◌||◌, ℕ, Bool, true, false, cond, List, [], ◌∷◌, map, length, Option, Some, None, is_some, true≢false, refl, sym, ap, subst}
use Rattle.std.specs.Prelude.{bytes_eq, codes, fold, slice_get}
use Rattle.std.proofs.Math.Bool.{or-true}
use Rattle.clap.specs.Walk.{Row as Kept, Text, all_of, has_row, with_default}
use Rattle.clap.specs.Kinds.{Kinds, or_else}
use Rattle.clap.specs.Faults.{check_fault, default_fault, defaults_fault}
use Rattle.clap.specs.declared.builder.value_parser.Reading.TheVariants.{AsWritten}
use Rattle.clap.specs.declared.parser.matches.ValueSource.TheVariants.{DefaultValue}
use Rattle.command_words.specs.declared.table.CommandName.{CommandName}
use Rattle.command_words.specs.declared.table.CommandName.TheVariants as commands
use Rattle.command_words.specs.declared.table.OptionName.{OptionName}
use Rattle.command_words.specs.declared.table.OptionName.TheVariants as options
use Rattle.command_words.specs.declared.table.Sought.{Sought}
use Rattle.command_words.specs.declared.table.Sought.TheVariants.{Operands, Arguments}
use Rattle.command_words.specs.Table.{Row, row_of, option_word, takes_argument}
use Rattle.command_words.specs.parser.Parser.{id_of, is_set, kept_text}
use Rattle.command_words.specs.parser.Asked.{kept_count}
use Rattle.command_words.proofs.command.Rows.{after_use, all_of-with_values, has_row-kept}
use Rattle.command_words.proofs.table.Tables.{same_option}
use Rattle.command_words.proofs.command.Rules.{operand, option, option_by, rules, shape}
use Rattle.command_words.proofs.command.Uses.{kept_of, same-id, shown}

either-way : {X : Type 0} (b : Bool) (x : X) → cond b x x ≡ x
either-way true x = refl
either-way false x = refl

-- the rows with their defaults
abbrev pub defaulted : Row → List Kept → List Kept
defaulted row rows = fold with_default rows (rules row)

-- an argument without a default
pub operand-default : (rows : List Kept) → with_default rows operand ≡ rows
operand-default rows = either-way (has_row (codes "operands") rows) rows

pub value-default : (word : Text) (rows : List Kept) → with_default rows (option_by true word) ≡ rows
value-default word rows = either-way (has_row word rows) rows

-- what is kept as it is written
abbrev pub IsWritten : Sought → Type 0
IsWritten Operands = ◌≡◌ {A = Bool} true true
IsWritten (Arguments name) = takes_argument name ≡ true

-- a flag is none of that
flag-differs : (name : OptionName) (sought : Sought) → takes_argument name ≡ false → IsWritten sought → bytes_eq (option_word name) (id_of sought) ≡ false
flag-differs name sought flag written = by (bytes_eq (option_word name) (id_of sought)) refl
  where
    never : (sought : Sought) → Arguments name ≡ sought → IsWritten sought → ⊥
    never sought is written = true≢false (sym (subst IsWritten (sym is) written) ∙ flag)

    by : (b : Bool) → bytes_eq (option_word name) (id_of sought) ≡ b → b ≡ false
    by true is = absurd (never sought (same-id (Arguments name) sought is) written)
    by false is = refl

other-use : (id other : Text) (values : List Text) (old : Option (List Text)) → bytes_eq id other ≡ false → after_use id other values old ≡ old
other-use id other values old differs = rw differs refl

flag-default : (word other : Text) (rows : List Kept) → bytes_eq word other ≡ false → all_of other (with_default rows (option_by false word)) ≡ all_of other rows
flag-default word other rows differs = by (has_row word rows) refl
  where
    by : (b : Bool) → has_row word rows ≡ b → all_of other (with_default rows (option_by false word)) ≡ all_of other rows
    by true is = rw is refl
    by false is = rw is (all_of-with_values word other AsWritten DefaultValue (codes "false" ∷ []) rows ∙ other-use word other (codes "false" ∷ []) (all_of other rows) differs)

option-default : (name : OptionName) (sought : Sought) (rows : List Kept) → IsWritten sought → all_of (id_of sought) (with_default rows (option name)) ≡ all_of (id_of sought) rows
option-default options.Sessions sought rows written = ap (all_of (id_of sought)) (value-default (option_word options.Sessions) rows)
option-default options.Turns sought rows written = ap (all_of (id_of sought)) (value-default (option_word options.Turns) rows)
option-default options.Queues sought rows written = ap (all_of (id_of sought)) (value-default (option_word options.Queues) rows)
option-default options.Idle sought rows written = ap (all_of (id_of sought)) (value-default (option_word options.Idle) rows)
option-default options.Limit sought rows written = ap (all_of (id_of sought)) (value-default (option_word options.Limit) rows)
option-default options.Dump sought rows written = flag-default (option_word options.Dump) (id_of sought) rows (flag-differs options.Dump sought refl written)
option-default options.Script sought rows written = flag-default (option_word options.Script) (id_of sought) rows (flag-differs options.Script sought refl written)
option-default options.Changes sought rows written = ap (all_of (id_of sought)) (value-default (option_word options.Changes) rows)
option-default options.Why sought rows written = flag-default (option_word options.Why) (id_of sought) rows (flag-differs options.Why sought refl written)

options-default : (names : List OptionName) (sought : Sought) (rows : List Kept) → IsWritten sought → all_of (id_of sought) (fold with_default rows (map option names)) ≡ all_of (id_of sought) rows
options-default [] sought rows written = refl
options-default (name ∷ names) sought rows written = options-default names sought (with_default rows (option name)) written ∙ option-default name sought rows written

-- what is kept as it is written stays
pub written-default : (row : Row) (sought : Sought) (rows : List Kept) → IsWritten sought → all_of (id_of sought) (defaulted row rows) ≡ all_of (id_of sought) rows
written-default row sought rows written = options-default row.options sought (with_default rows operand) written ∙ ap (all_of (id_of sought)) (operand-default rows)

-- a flag is set where it is given
pub flag-set : (name : OptionName) → takes_argument name ≡ false → (texts : List Text) (rows : List Kept) → all_of (option_word name) rows ≡ kept_of (Arguments name) texts
    → is_set (kept_text (all_of (option_word name) (with_default rows (option_by false (option_word name)))) 0) ≡ is_some (slice_get texts 0)
flag-set name flag [] rows fits =
    let word = option_word name in
    let absent : has_row word rows ≡ false = has_row-kept word rows ∙ ap is_some fits in
    rw absent (ap (λ (kept : Option (List Text)). is_set (kept_text kept 0)) (all_of-with_values word word AsWritten DefaultValue (codes "false" ∷ []) rows
    ∙ ap (after_use word word (codes "false" ∷ [])) fits ∙ ap (λ (same : Bool). cond same (Some (codes "false" ∷ [])) None) (same_option name)))
flag-set name flag (text ∷ texts) rows fits =
    let word = option_word name in
    let present : has_row word rows ≡ true = has_row-kept word rows ∙ ap is_some fits in
    let own : shown (Arguments name) text ≡ codes "true" = rw flag refl in
    rw present (ap (λ (kept : Option (List Text)). is_set (kept_text kept 0)) fits ∙ ap (λ (kept : Text). bytes_eq kept (codes "true")) own)

-- texts that are kept as they are written
shown-same : (sought : Sought) → IsWritten sought → (text : Text) → shown sought text ≡ text
shown-same Operands written text = refl
shown-same (Arguments name) written text = rw written refl

all-shown : (sought : Sought) → IsWritten sought → (texts : List Text) → map (shown sought) texts ≡ texts
all-shown sought written [] = refl
all-shown sought written (text ∷ texts) = (λ i. shown-same sought written text i ∷ all-shown sought written texts i)

pub written-text : (sought : Sought) → IsWritten sought → (texts : List Text) (index : ℕ) → kept_text (kept_of sought texts) index ≡ slice_get texts index
written-text sought written [] index = refl
written-text sought written (text ∷ texts) index = ap (λ (own : List Text). slice_get own index) (all-shown sought written (text ∷ texts))

pub written-count : (texts : List Text) → kept_count (kept_of Operands texts) ≡ length texts
written-count [] = refl
written-count (text ∷ texts) = ap length (all-shown Operands refl (text ∷ texts))

-- defaults have no fault
plain-passes : (b : Bool) (kinds : Kinds) → kinds ≡ [] → cond b [] kinds ≡ []
plain-passes true kinds none = refl
plain-passes false kinds none = none

default-passes : (name : OptionName) (rows : List Kept) → default_fault rows (option name) ≡ []
default-passes options.Sessions rows = rw (or-true (has_row (option_word options.Sessions) rows)) refl
default-passes options.Turns rows = rw (or-true (has_row (option_word options.Turns) rows)) refl
default-passes options.Queues rows = rw (or-true (has_row (option_word options.Queues) rows)) refl
default-passes options.Idle rows = rw (or-true (has_row (option_word options.Idle) rows)) refl
default-passes options.Limit rows = rw (or-true (has_row (option_word options.Limit) rows)) refl
default-passes options.Dump rows = plain-passes (has_row (option_word options.Dump) rows || false) [] refl
default-passes options.Script rows = plain-passes (has_row (option_word options.Script) rows || false) [] refl
default-passes options.Changes rows = rw (or-true (has_row (option_word options.Changes) rows)) refl
default-passes options.Why rows = plain-passes (has_row (option_word options.Why) rows || false) [] refl

defaults-pass : (names : List OptionName) (rows : List Kept) → defaults_fault rows (map option names) ≡ []
unfolding defaults_fault
defaults-pass [] rows = refl
defaults-pass (name ∷ names) rows = ap (λ (kinds : Kinds). or_else kinds (defaults_fault (with_default rows (option name)) (map option names))) (default-passes name rows) ∙ defaults-pass names (with_default rows (option name))

operand-passes : (rows : List Kept) → default_fault rows operand ≡ []
operand-passes rows = rw (or-true (has_row (codes "operands") rows)) refl

pub all-defaults-pass : (row : Row) (rows : List Kept) → defaults_fault rows (rules row) ≡ []
unfolding defaults_fault
all-defaults-pass row rows =
    ap (λ (kinds : Kinds). or_else kinds (defaults_fault (with_default rows operand) (map option row.options))) (operand-passes rows) ∙ defaults-pass row.options (with_default rows operand)

-- nor has the last check
pub check-passes : (name : CommandName) (rows : List Kept) → check_fault (shape (row_of name)) rows false ≡ []
check-passes commands.Serve rows = refl
check-passes commands.Replay rows = refl
check-passes commands.Check rows = refl
check-passes commands.Dump rows = refl
check-passes commands.Explain rows = refl
check-passes commands.Sample rows = refl
check-passes commands.Ask rows = refl
check-passes commands.Prove rows = refl
check-passes commands.Verify rows = refl
check-passes commands.Rights rows = refl
check-passes commands.Help rows = refl
check-passes commands.Version rows = refl
