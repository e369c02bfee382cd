-- What is found in the tables of commands and options, and that each name is found.
use Rattle.std.proofs.Common.{◌≡◌, ◌∙◌, ◌<◌, ℕ, zero, suc, Bool, true, false, cond, List, [], ◌∷◌, get_or, length, Some, refl, sym, ap, subst, arith}
use Rattle.std.specs.Prelude.{Contains, find, bytes_eq}
use Rattle.std.proofs.lemmas.Option.{same_Some}
use Rattle.std.proofs.lemmas.Slice.Eq.{bytes_eq-Decides}
use Rattle.command_words.specs.declared.table.CommandName.{CommandName}
use Rattle.command_words.specs.declared.table.CommandName.TheVariants as commands
use Rattle.command_words.specs.declared.table.OptionName.{OptionName}
use Rattle.command_words.specs.declared.table.OptionName.TheVariants as options
use Rattle.command_words.specs.Table.{Row, row_of, option_word, command_named, option_named, all_commands, is_same_option}

-- an element that passes
pub record Found {X : Type 0} (test : X → Bool) (xs : List X) (x : X) : Type 0 where
  pub here : Contains xs x
  pub passes : test x ≡ true

pub find-found : {X : Type 0} (test : X → Bool) (xs : List X) (x : X) → find test xs ≡ Some x → Found test xs x
find-found {X} test [] x found = absurd (cc)
find-found {X} test (y ∷ ys) x found =
    elim (test y) as (λ (b : Bool). test y ≡ b → cond b (Some y) (find test ys) ≡ Some x → Found test (y ∷ ys) x) [
      | true ↦ λ passes first. let is : y ≡ x = same_Some y x first in record { here = (0, omega arith, is); passes = subst (λ (z : X). test z ≡ true) is passes }
      | false ↦ λ fails rest. let later = find-found test ys x rest in
          record { here = (suc later.here.0, omega (arith, later.here.1), later.here.2); passes = later.passes }
    ] refl found

-- an option that is found is the command's, and the word is its name
pub record Named (row : Row) (word : List ℕ) (name : OptionName) : Type 0 where
  pub of_row : Contains row.options name
  pub word_is : word ≡ option_word name

pub option_named-sound : (row : Row) (word : List ℕ) (name : OptionName) → option_named row word ≡ Some name → Named row word name
option_named-sound row word name given =
    let found = find-found (λ (other : OptionName). bytes_eq word (option_word other)) row.options name given in
    record { of_row = found.here; word_is = (bytes_eq-Decides word (option_word name)).0 found.passes }

pub command_named-sound : (word : List ℕ) (name : CommandName) → command_named word ≡ Some name → word ≡ (row_of name).name
command_named-sound word name given =
    let found = find-found (λ (other : CommandName). bytes_eq word (row_of other).name) all_commands name given in
    (bytes_eq-Decides word (row_of name).name).0 found.passes

-- nothing is of an empty list
pub none-contained : {X : Type 0} (x : X) → Contains [] x → ⊥
none-contained x contained = omega (arith, contained.1)

-- an option is the same as itself
pub same_option : (name : OptionName) → is_same_option name name ≡ true
same_option name = (bytes_eq-Decides (option_word name) (option_word name)).1 refl

pub command_named-complete : (name : CommandName) → command_named (row_of name).name ≡ Some name
command_named-complete commands.Serve = refl
command_named-complete commands.Replay = refl
command_named-complete commands.Check = refl
command_named-complete commands.Dump = refl
command_named-complete commands.Explain = refl
command_named-complete commands.Sample = refl
command_named-complete commands.Ask = refl
command_named-complete commands.Prove = refl
command_named-complete commands.Verify = refl
command_named-complete commands.Rights = refl
command_named-complete commands.Help = refl
command_named-complete commands.Version = refl

-- all options
abbrev all_options : List OptionName
all_options = options.Sessions ∷ options.Turns ∷ options.Queues ∷ options.Idle ∷ options.Limit ∷ options.Dump ∷ options.Script ∷ options.Changes ∷ options.Why ∷ []

-- each is found by its word, so that options of one word are one
word-found : (name : OptionName) → find (λ other. bytes_eq (option_word name) (option_word other)) all_options ≡ Some name
word-found options.Sessions = refl
word-found options.Turns = refl
word-found options.Queues = refl
word-found options.Idle = refl
word-found options.Limit = refl
word-found options.Dump = refl
word-found options.Script = refl
word-found options.Changes = refl
word-found options.Why = refl

pub option_word-once : (one other : OptionName) → option_word one ≡ option_word other → one ≡ other
option_word-once one other is =
    same_Some one other (sym (word-found one) ∙ ap (λ word. find (λ name. bytes_eq word (option_word name)) all_options) is ∙ word-found other)

-- what passes alone is found where it is contained
find-some : {X : Type 0} (test : X → Bool) (xs : List X) (x : X) → Contains xs x → test x ≡ true → ((y : X) → test y ≡ true → x ≡ y) → find test xs ≡ Some x
find-some {X} test [] x contained passes alone = absurd (none-contained x contained)
find-some {X} test (y ∷ ys) x contained passes alone = by (test y) refl contained.0 contained.1 contained.2 (λ later. find-some test ys x later passes alone)
  where
    by : (b : Bool) → test y ≡ b → (at : ℕ) → at < suc (length ys) → get_or (y ∷ ys) at x ≡ x → (Contains ys x → find test ys ≡ Some x) → cond b (Some y) (find test ys) ≡ Some x
    by true here at below is later = ap Some (sym (alone y here))
    by false differs zero below is later = (let clash : true ≡ false = sym passes ∙ ap test (sym is) ∙ differs in cc)
    by false differs (suc at) below is later = later (at, omega (arith, below), is)

-- each option of a command is found by its name
pub option_named-complete : (row : Row) (name : OptionName) → Contains row.options name → option_named row (option_word name) ≡ Some name
option_named-complete row name of_row =
    find-some (λ (other : OptionName). bytes_eq (option_word name) (option_word other)) row.options name of_row (same_option name)
    (λ other same. option_word-once name other ((bytes_eq-Decides (option_word name) (option_word other)).0 same))
