-- What is kept of a line says what its texts say.
use Rattle.std.proofs.Common.{◌≡◌, ◌∙◌, ℕ, true, false, List, length, Option, is_some, refl, ap}
use Rattle.std.specs.Prelude.{slice_get}
use Rattle.clap.specs.Walk.{Row as Kept, all_of, with_default}
use Rattle.command_words.specs.declared.table.CommandName.{CommandName}
use Rattle.command_words.specs.declared.table.CommandName.TheVariants as commands
use Rattle.command_words.specs.declared.table.OptionName.TheVariants as options
use Rattle.command_words.specs.declared.table.Sought.{Sought}
use Rattle.command_words.specs.declared.table.Sought.TheVariants.{Operands, Arguments}
use Rattle.command_words.specs.Table.{Row, row_of, option_word}
use Rattle.command_words.specs.command.Line.{Line, texts_of}
use Rattle.command_words.specs.parser.Parser.{id_of, is_set, kept_text}
use Rattle.command_words.specs.parser.Asked.{command_said, kept_count, kept_said}
use Rattle.command_words.proofs.command.Rules.{option_by}
use Rattle.command_words.proofs.command.Uses.{Holds, kept_of}
use Rattle.command_words.proofs.command.Sayings.{line_said}
use Rattle.command_words.proofs.command.Defaults.{IsWritten, defaulted, flag-set, operand-default, value-default, written-count, written-default, written-text}

-- what is kept at the end of a parse
abbrev pub kept_at_end : Row → List Kept → Sought → Option (List (List ℕ))
kept_at_end row rows sought = all_of (id_of sought) (defaulted row rows)

kept-fits : (row : Row) (rows : List Kept) (line : Line) (sought : Sought) → Holds rows (λ sought. texts_of sought line) → IsWritten sought → kept_at_end row rows sought ≡ kept_of sought (texts_of sought line)
kept-fits row rows line sought holds written = written-default row sought rows written ∙ holds.fits sought

text-same : (row : Row) (rows : List Kept) (line : Line) (sought : Sought) (index : ℕ) → Holds rows (λ sought. texts_of sought line) → IsWritten sought → kept_text (kept_at_end row rows sought) index ≡ slice_get (texts_of sought line) index
text-same row rows line sought index holds written = ap (λ (kept : Option (List (List ℕ))). kept_text kept index) (kept-fits row rows line sought holds written) ∙ written-text sought written (texts_of sought line) index

pub count-same : (row : Row) (rows : List Kept) (line : Line) → Holds rows (λ sought. texts_of sought line) → kept_count (kept_at_end row rows Operands) ≡ length (texts_of Operands line)
count-same row rows line holds = ap kept_count (kept-fits row rows line Operands holds refl) ∙ written-count (texts_of Operands line)

dump-same : (rows : List Kept) (line : Line) → Holds rows (λ sought. texts_of sought line) → is_set (kept_text (kept_at_end (row_of commands.Replay) rows (Arguments options.Dump)) 0) ≡ is_some (slice_get (texts_of (Arguments options.Dump) line) 0)
dump-same rows line holds =
    let dump = option_by false (option_word options.Dump) in
    let left : defaulted (row_of commands.Replay) rows ≡ with_default rows dump =
    ap (λ (base : List Kept). with_default (with_default base dump) (option_by true (option_word options.Turns))) (operand-default rows) ∙ value-default (option_word options.Turns) (with_default rows dump) in
    ap (λ (base : List Kept). is_set (kept_text (all_of (option_word options.Dump) base) 0)) left ∙ flag-set options.Dump refl (texts_of (Arguments options.Dump) line) rows (holds.fits (Arguments options.Dump))

script-same : (rows : List Kept) (line : Line) → Holds rows (λ sought. texts_of sought line) → is_set (kept_text (kept_at_end (row_of commands.Ask) rows (Arguments options.Script)) 0) ≡ is_some (slice_get (texts_of (Arguments options.Script) line) 0)
script-same rows line holds =
    let script = option_by false (option_word options.Script) in
    let left : defaulted (row_of commands.Ask) rows ≡ with_default rows script = ap (λ (base : List Kept). with_default base script) (operand-default rows) in
    ap (λ (base : List Kept). is_set (kept_text (all_of (option_word options.Script) base) 0)) left ∙ flag-set options.Script refl (texts_of (Arguments options.Script) line) rows (holds.fits (Arguments options.Script))

why-same : (rows : List Kept) (line : Line) → Holds rows (λ sought. texts_of sought line) → is_set (kept_text (kept_at_end (row_of commands.Check) rows (Arguments options.Why)) 0) ≡ is_some (slice_get (texts_of (Arguments options.Why) line) 0)
why-same rows line holds =
    let why = option_by false (option_word options.Why) in
    let left : defaulted (row_of commands.Check) rows ≡ with_default rows why =
    ap (λ (base : List Kept). with_default (with_default base (option_by true (option_word options.Changes))) why) (operand-default rows)
    ∙ ap (λ (base : List Kept). with_default base why) (value-default (option_word options.Changes) rows) in
    ap (λ (base : List Kept). is_set (kept_text (all_of (option_word options.Why) base) 0)) left ∙ flag-set options.Why refl (texts_of (Arguments options.Why) line) rows (holds.fits (Arguments options.Why))

-- one case a command
pub said-same : (name : CommandName) (rows : List Kept) (line : Line) → Holds rows (λ sought. texts_of sought line) → kept_said name (kept_at_end (row_of name) rows) ≡ line_said name line
unfolding command_said
said-same commands.Serve rows line holds =
    let own : (sought : Sought) (index : ℕ) → IsWritten sought → kept_text (kept_at_end (row_of commands.Serve) rows sought) index ≡ slice_get (texts_of sought line) index = λ sought index written. text-same (row_of commands.Serve) rows line sought index holds written in
    rw (own Operands 0 refl, own Operands 1 refl, own (Arguments options.Sessions) 0 refl, own (Arguments options.Turns) 0 refl, own (Arguments options.Queues) 0 refl, own (Arguments options.Idle) 0 refl, own (Arguments options.Limit) 0 refl, own (Arguments options.Changes) 0 refl) refl
said-same commands.Replay rows line holds =
    let own : (sought : Sought) (index : ℕ) → IsWritten sought → kept_text (kept_at_end (row_of commands.Replay) rows sought) index ≡ slice_get (texts_of sought line) index = λ sought index written. text-same (row_of commands.Replay) rows line sought index holds written in
    rw (own Operands 0 refl, own Operands 1 refl, own (Arguments options.Turns) 0 refl, dump-same rows line holds) refl
said-same commands.Check rows line holds =
    let own : (sought : Sought) → IsWritten sought → kept_text (kept_at_end (row_of commands.Check) rows sought) 0 ≡ slice_get (texts_of sought line) 0 = λ sought written. text-same (row_of commands.Check) rows line sought 0 holds written in
    rw (own Operands refl, own (Arguments options.Changes) refl, why-same rows line holds) refl
said-same commands.Dump rows line holds =
    let own : (sought : Sought) → IsWritten sought → kept_text (kept_at_end (row_of commands.Dump) rows sought) 0 ≡ slice_get (texts_of sought line) 0 = λ sought written. text-same (row_of commands.Dump) rows line sought 0 holds written in
    rw (own Operands refl, own (Arguments options.Changes) refl) refl
said-same commands.Explain rows line holds =
    let own : (index : ℕ) → kept_text (kept_at_end (row_of commands.Explain) rows Operands) index ≡ slice_get (texts_of Operands line) index = λ index. text-same (row_of commands.Explain) rows line Operands index holds refl in
    rw (own 0, own 1, own 2, own 3, own 4) refl
said-same commands.Sample rows line holds = rw (text-same (row_of commands.Sample) rows line Operands 0 holds refl) refl
said-same commands.Ask rows line holds =
    let own : (index : ℕ) → kept_text (kept_at_end (row_of commands.Ask) rows Operands) index ≡ slice_get (texts_of Operands line) index = λ index. text-same (row_of commands.Ask) rows line Operands index holds refl in
    rw (own 0, own 1, script-same rows line holds) refl
said-same commands.Prove rows line holds =
    let own : (index : ℕ) → kept_text (kept_at_end (row_of commands.Prove) rows Operands) index ≡ slice_get (texts_of Operands line) index = λ index. text-same (row_of commands.Prove) rows line Operands index holds refl in
    rw (own 0, own 1, own 2, own 3, own 4) refl
said-same commands.Verify rows line holds =
    let own : (index : ℕ) → kept_text (kept_at_end (row_of commands.Verify) rows Operands) index ≡ slice_get (texts_of Operands line) index = λ index. text-same (row_of commands.Verify) rows line Operands index holds refl in
    rw (own 0, own 1) refl
said-same commands.Rights rows line holds =
    let own : (index : ℕ) → kept_text (kept_at_end (row_of commands.Rights) rows Operands) index ≡ slice_get (texts_of Operands line) index = λ index. text-same (row_of commands.Rights) rows line Operands index holds refl in
    rw (own 0, own 1, own 2) refl
said-same commands.Help rows line holds = refl
said-same commands.Version rows line holds = refl
