-- What clap's matches say is what the words ask for, and its errors come where they ask for nothing.
use Rattle.std.proofs.Common.{◌≡◌, ◌≢◌, ◌∙◌, ◌≤◌, ◌<◌, inl, inr, ℕ, zero, suc, Bool, true, false, cond, eqb, List, [], ◌∷◌, ◌++◌, length, get_or, map, Option, Some, None, refl, sym, ap, subst, arith}
use Rattle.std.specs.Prelude.{Contains, String, string_bytes}
use Rattle.std.proofs.lemmas.List.{map-append}
use Rattle.std.proofs.lemmas.Str.{IsUtf8-string_bytes}
use Rattle.std.specs.List.{AllByRecursion}
use Rattle.std.specs.Str.{IsUtf8}
use Rattle.std.proofs.lemmas.Bool.{eqb-true, eq-eqb, and_parts}
use Rattle.std.proofs.lemmas.Option.{same_Some}
use Rattle.clap.specs.Walk.{Row as Kept, Rule, Text, all_of, idle, nothing_held, rows_after, rows_of}
use Rattle.clap.specs.Matches.{found_of}
use Rattle.clap.specs.Simple.{App, HasMatchesOf, Shape, is_simple, matches_of, names_of, new_app, on_top, with_rule}
use Rattle.clap.specs.Kinds.{HasKind, Kinds, or_else}
use Rattle.clap.specs.Values.{kind_of}
use Rattle.clap.specs.declared.error.Error.{Error}
use Rattle.clap.specs.declared.error.kind.ErrorKind.TheVariants.{OutOfMemory}
use Rattle.clap.specs.Faults.{built_fault, check_fault, fault_of, is_simple_and_free, settle_fault, walk_fault}
use Rattle.clap.specs.declared.parser.matches.ArgMatches.{ArgMatches}
use Rattle.clap.proofs.FaultLemmas.{leaf_fault}
use Rattle.command_words.specs.declared.table.CommandName.{CommandName}
use Rattle.command_words.specs.declared.table.OptionName.{OptionName}
use Rattle.command_words.specs.declared.table.Sought.{Sought}
use Rattle.command_words.specs.declared.table.Sought.TheVariants.{Operands, Arguments}
use Rattle.command_words.specs.Table.{row_of, command_named}
use Rattle.command_words.specs.command.Line.{line_words, texts_of}
use Rattle.command_words.specs.command.Command.{CommandView, IsCommand}
use Rattle.command_words.specs.parser.Parser.{app_for, app_with, id_of, kept_in, operand_rule, option_rule}
use Rattle.command_words.specs.parser.Asked.{IsAsked, IsRead, IsReading, Parses, kept_count, kept_said, said_by}
use Rattle.command_words.proofs.table.Tables.{command_named-sound, command_named-complete, option_named-complete}
use Rattle.command_words.proofs.command.Rules.{app, built-is, is-simple, rules, shape}
use Rattle.command_words.proofs.command.Steps.{at, nothing-more}
use Rattle.command_words.proofs.command.Uses.{holds-nothing}
use Rattle.command_words.proofs.command.Walks.{end, end_rows, total}
use Rattle.command_words.proofs.command.Options.{IsReadable}
use Rattle.command_words.proofs.command.Sound.{sound}
use Rattle.command_words.proofs.command.Complete.{complete}
use Rattle.command_words.proofs.command.Sayings.{Taken, command_said-sound, command_said-complete}
use Rattle.command_words.proofs.command.Defaults.{all-defaults-pass, check-passes, defaulted}
use Rattle.command_words.proofs.command.Said.{count-same, kept_at_end, said-same}

-- the rows that a walk over a command's words leaves, and its fault
abbrev pub left : CommandName → List Text → List Kept
left name words = end_rows (row_of name) (at idle false [] None) words

abbrev pub fault : CommandName → List Text → Kinds
fault name words = total (row_of name) (at idle false [] None) words

-- clap's fault is that of the walk
pub fault-is : (name : CommandName) (words : List Text) → fault_of (app_for (row_of name)) words ≡ fault name words
fault-is name words =
    let row = row_of name in
    let walk = walk_fault (shape row) [] (at idle false [] None) words in
    let settled = settle_fault (rules row) false (end row (at idle false [] None) words).held in
    let checked = check_fault (shape row) (defaulted row (left name words)) false in
    ap (λ (own : App). built_fault own nothing_held words) (built-is name)
    ∙ leaf_fault (app row) nothing_held words refl
    ∙ ap (λ (kinds : Kinds). or_else walk (or_else settled (or_else kinds checked))) (all-defaults-pass row (left name words))
    ∙ ap (λ (kinds : Kinds). or_else walk (or_else settled kinds)) (check-passes name (defaulted row (left name words)))
    ∙ ap (or_else walk) (nothing-more settled)

-- and clap's rows are those of the walk with the defaults
pub matches-are : (name : CommandName) (words : List Text) → (λ (sought : Sought). all_of (id_of sought) (matches_of (app_for (row_of name)) words)) ≡ kept_at_end (row_of name) (left name words)
matches-are name words = ap {B = Sought → Option (List Text)} (λ (own : App) (sought : Sought). all_of (id_of sought) (rows_after own.top.rules (names_of own) words)) (built-is name)

-- the rows of the table
rows-readable : (name : CommandName) → IsReadable (row_of name)
rows-readable name = record { named = option_named-complete (row_of name) }

-- a fact of each, of some, and of one
each : {X : Type 0} (P : X → Type 0) (xs : List X) → ((x : X) → P x) → AllByRecursion P xs
each P [] all = tt
each P (x ∷ xs) all = (all x, each P xs all)

at_one : {X : Type 0} (P : X → Type 0) (xs : List X) (x : X) → AllByRecursion P xs → Contains xs x → P x
at_one P [] x all contained = absurd (omega (arith, contained.1))
at_one P (y ∷ ys) x all contained = by contained.0 contained.1 contained.2 (at_one P ys x all.1)
  where
    by : (i : ℕ) → i < suc (length ys) → get_or (y ∷ ys) i x ≡ x → (Contains ys x → P x) → P x
    by zero below is later = subst P is all.0
    by (suc i) below is later = later (i, omega (arith, below), is)

-- what the command's operands say
said-counted : (name : CommandName) (kept : Sought → Option (List Text)) (asked : CommandView) → said_by name kept ≡ Some asked → (kept_count (kept Operands) ≡ (row_of name).operands) × (kept_said name kept ≡ Some asked)
unfolding said_by
said-counted name kept asked given = by (eqb (kept_count (kept Operands)) (row_of name).operands) refl given
  where
    by : (b : Bool) → eqb (kept_count (kept Operands)) (row_of name).operands ≡ b → cond b (kept_said name kept) None ≡ Some asked → (kept_count (kept Operands) ≡ (row_of name).operands) × (kept_said name kept ≡ Some asked)
    by true is said = (eqb-true _ _ is, said)
    by false is said = absurd (cc)

counted-said : (name : CommandName) (kept : Sought → Option (List Text)) (asked : CommandView) → kept_count (kept Operands) ≡ (row_of name).operands → kept_said name kept ≡ Some asked → said_by name kept ≡ Some asked
unfolding said_by
counted-said name kept asked count said = ap (λ (b : Bool). cond b (kept_said name kept) None) (eq-eqb _ _ count) ∙ said

-- words without a fault ask for what is kept of them
pub kept-found : (name : CommandName) (words : List Text) (asked : CommandView) → AllByRecursion IsUtf8 words → fault name words ≡ [] → said_by name (kept_at_end (row_of name) (left name words)) ≡ Some asked → IsAsked name words asked
kept-found name words asked utf8 none given =
    let row = row_of name in
    let rows = left name words in
    let lined = (sound row (rows-readable name) words utf8).0 false [] None (λ sought. []) (λ _. holds-nothing) none in
    let line = lined.line in
    let parts = said-counted name (kept_at_end row rows) asked given in
    let taken : Taken row line = record {
      operands = sym (count-same row rows line lined.holds) ∙ parts.0;
      once = each (λ (option : OptionName). length (texts_of (Arguments option) line) ≤ 1) row.options (λ option. lined.holds.once option);
    } in
    let says = command_said-sound name line asked taken (sym (said-same name rows line lined.holds) ∙ parts.1) in
    record {
      line = line;
      words_are = lined.words_are;
      is_line = record { items = lined.are; operands = taken.operands; once = taken.once };
      says = says;
    }

-- words that ask for a command have no fault, and what is kept of them says it
pub record Asked (name : CommandName) (words : List Text) (asked : CommandView) : Type 0 where
  pub none : fault name words ≡ []
  pub said : said_by name (kept_at_end (row_of name) (left name words)) ≡ Some asked

pub kept-only : (name : CommandName) (words : List Text) (asked : CommandView) → IsAsked name words asked → Asked name words asked
kept-only name words asked is =
    let row = row_of name in
    let line = is.line in
    let once : (option : OptionName) → Contains row.options option → length (texts_of (Arguments option) line) ≤ 1 = λ option of_row. at_one (λ (own : OptionName). length (texts_of (Arguments own) line) ≤ 1) row.options option is.is_line.once of_row in
    let passed = complete row (rows-readable name) line.items line.rest is.is_line.items false [] None (λ sought. []) refl holds-nothing once in
    let rows = left name (line_words line) in
    let taken : Taken row line = record { operands = is.is_line.operands; once = is.is_line.once } in
    let said = counted-said name (kept_at_end row rows) asked (count-same row rows line passed.holds ∙ is.is_line.operands) (said-same name rows line passed.holds ∙ command_said-complete name line asked taken is.says) in
    subst (λ (all : List Text). Asked name all asked) (sym is.words_are) (record { none = passed.none; said = said })

-- what matches say, and what an error says
pub matches-read : (name : CommandName) (words : List Text) (matches : ArgMatches) → AllByRecursion IsUtf8 words → fault_of (app_for (row_of name)) words ≡ [] → rows_of (found_of matches) ≡ matches_of (app_for (row_of name)) words
    → Parses name words (Some matches)
matches-read name words matches utf8 none are =
    let kept : kept_in matches ≡ kept_at_end (row_of name) (left name words) = ap {B = Sought → Option (List Text)} (λ (rows : List Kept) (sought : Sought). all_of (id_of sought) rows) are ∙ matches-are name words in
    subst (λ (own : Sought → Option (List Text)). IsRead name words (said_by name own)) (sym kept) (record {
      found = λ asked given. kept-found name words asked utf8 (sym (fault-is name words) ∙ none) given;
      only = λ asked is. (kept-only name words asked is).said;
    })

pub error-read : (name : CommandName) (words : List Text) → (fault_of (app_for (row_of name)) words ≡ [] → ⊥) → Parses name words None
error-read name words fails = record {
  found = λ asked given. absurd (cc);
  only = λ asked is. absurd (fails (fault-is name words ∙ (kept-only name words asked is).none));
}

-- words of one command at most
pub asked-once : (name : CommandName) (words : List Text) (one other : CommandView) → IsAsked name words one → IsAsked name words other → one ≡ other
asked-once name words one other is is_other = same_Some one other (sym (kept-only name words one is).said ∙ (kept-only name words other is_other).said)

-- a command that words are, by its name and the other words
pub record Named (first : Text) (words : List Text) (asked : CommandView) : Type 0 where
  pub name : CommandName
  pub named : command_named first ≡ Some name
  pub is : IsAsked name words asked

abbrev head_of : Text → List Text → Text
head_of none [] = none
head_of none (first ∷ words) = first

abbrev tail_of : List Text → List Text
tail_of [] = []
tail_of (first ∷ words) = words

pub command-named : (first : Text) (words : List Text) (asked : CommandView) → IsCommand (first ∷ words) asked → Named first words asked
command-named first words asked is =
    let same : first ≡ (row_of is.name).name = ap (head_of first) is.words_are in
    record {
      name = is.name;
      named = ap command_named same ∙ command_named-complete is.name;
      is = record { line = is.line; words_are = ap tail_of is.words_are; is_line = is.is_line; says = is.says };
    }

named-command : (first : Text) (words : List Text) (name : CommandName) (asked : CommandView) → command_named first ≡ Some name → IsAsked name words asked → IsCommand (first ∷ words) asked
named-command first words name asked named is = record {
  name = name;
  line = is.line;
  words_are = ap (λ (own : Text). own ∷ words) (command_named-sound first name named) ∙ ap (λ (later : List Text). (row_of name).name ∷ later) is.words_are;
  is_line = is.is_line;
  says = is.says;
}

-- all words, by the command that the first names
pub named-reading : (first : Text) (words : List Text) (name : CommandName) (read : Option CommandView) → command_named first ≡ Some name → IsRead name words read → IsReading (first ∷ words) read
named-reading first words name read named is = record {
  found = λ asked given. named-command first words name asked named (is.found asked given);
  only = λ asked command. only asked (command-named first words asked command);
}
  where
    only : (asked : CommandView) → Named first words asked → read ≡ Some asked
    only asked own = is.only asked (subst (λ (other : CommandName). IsAsked other words asked) (same_Some own.name name (sym own.named ∙ named)) own.is)

-- all words of the program are UTF-8
pub all-utf8 : {Z : Type 0} (words : List (String Z)) → AllByRecursion IsUtf8 (map string_bytes words)
all-utf8 [] = tt
all-utf8 (word ∷ words) = (IsUtf8-string_bytes word, all-utf8 words)

-- one more option of the parser
pub app-more : (name : Text) (options : List OptionName) (option : OptionName) → with_rule (app_with name options) (option_rule option) ≡ app_with name (options ++ option ∷ [])
app-more name options option = ap (λ (rules : List Rule). on_top (λ (shape : Shape). record shape { no_binary_name = true; disable_help_flag = true; rules = operand_rule ∷ rules }) (new_app name)) (sym (map-append option_rule options (option ∷ [])))

-- the parser's answers, for a parser that is the command's
pub matches-parse : (name : CommandName) (parser : App) (words : List Text) (matches : ArgMatches) → AllByRecursion IsUtf8 words → parser ≡ app_for (row_of name) → (is_simple_and_free parser ≡ true → fault_of parser words ≡ []) → HasMatchesOf parser words matches
    → Parses name words (Some matches)
matches-parse name parser words matches utf8 is none has =
    let own = app_for (row_of name) in
    let free = is-simple name in
    let simple = (and_parts (is_simple own) _ free).0 in
    matches-read name words matches utf8 (subst (λ (one : App). is_simple_and_free one ≡ true → fault_of one words ≡ []) is none free) (subst (λ (one : App). HasMatchesOf one words matches) is has simple).0

pub error-parse : (name : CommandName) (parser : App) (words : List Text) (error : Error) → parser ≡ app_for (row_of name) → (is_simple_and_free parser ≡ true → HasKind (fault_of parser words) error) → kind_of error ≢ OutOfMemory → Parses name words None
error-parse name parser words error is fails other =
    error-read name words (λ none. by (subst (λ (kinds : Kinds). HasKind kinds error) none (subst (λ (one : App). is_simple_and_free one ≡ true → HasKind (fault_of one words) error) is fails (is-simple name))))
  where
    by : HasKind [] error → ⊥
    by (inl memory) = other memory
    by (inr among) = among
