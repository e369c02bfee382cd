-- What the words so far have given, and rows that keep it.
use Rattle.std.proofs.Common.{◌≡◌, ◌∙◌, ◌≤◌, ◌&&◌, Bool, true, false, cond, List, [], ◌∷◌, ◌++◌, length, map, Option, Some, None, is_some, refl, sym, ap, subst, arith}
use Rattle.std.specs.Prelude.{bytes_eq, codes}
use Rattle.std.proofs.lemmas.List.{append-nil, map-append}
use Rattle.std.proofs.lemmas.Slice.Eq.{bytes_eq-Decides}
use Rattle.clap.specs.Walk.{Row as Kept, Text, all_of, has_row, used, with_values}
use Rattle.clap.specs.Kinds.{or_else}
use Rattle.clap.specs.Faults.{use_fault}
use Rattle.clap.specs.declared.builder.value_parser.Reading.TheVariants.{AsWritten}
use Rattle.clap.specs.declared.error.kind.ErrorKind.{ErrorKind}
use Rattle.clap.specs.declared.error.kind.ErrorKind.TheVariants as kind
use Rattle.clap.specs.declared.parser.matches.ValueSource.TheVariants.{CommandLine}
use Rattle.command_words.specs.declared.table.OptionName.{OptionName}
use Rattle.command_words.specs.declared.table.OptionName.TheVariants as options
use Rattle.command_words.specs.declared.table.Sought.{Sought}
use Rattle.command_words.specs.declared.table.Sought.TheVariants.{Operands, Arguments}
use Rattle.command_words.specs.Table.{option_word, takes_argument, is_same_option}
use Rattle.command_words.specs.command.Line.{Item, Operand, Flag, Joined, Apart, item_texts}
use Rattle.command_words.specs.parser.Parser.{id_of}
use Rattle.command_words.proofs.command.Rows.{kept_more, after_use, all_of-with_values, has_row-kept, without-absent}
use Rattle.command_words.proofs.command.Rules.{operand, option_by, bytes_eq-back}
use Rattle.command_words.proofs.table.Tables.{option_word-once}

-- the texts that were given, by what is sought
abbrev pub Given : Type 0
Given = Sought → List Text

-- a text as it is kept: for a flag that is `true`
abbrev pub shown : Sought → Text → Text
shown Operands text = text
shown (Arguments name) text = cond (takes_argument name) text (codes "true")

-- the texts as they are kept
abbrev pub kept_of : Sought → List Text → Option (List Text)
kept_of sought [] = None
kept_of sought (text ∷ texts) = Some (map (shown sought) (text ∷ texts))

-- the rows keep what was given, and each option was given once at most
pub record Holds (rows : List Kept) (given : Given) : Type 0 where
  pub fits : (sought : Sought) → all_of (id_of sought) rows ≡ kept_of sought (given sought)
  pub once : (name : OptionName) → length (given (Arguments name)) ≤ 1

pub holds-same : (rows : List Kept) (one other : Given) → ((sought : Sought) → one sought ≡ other sought) → Holds rows one → Holds rows other
holds-same rows one other same = subst (Holds rows) (λ i sought. same sought i)

pub holds-nothing : Holds [] (λ sought. [])
holds-nothing = record { fits = λ sought. refl; once = λ name. omega arith }

-- an item more
abbrev pub with_item : Item → Given → Given
with_item item given sought = given sought ++ item_texts sought item

kept_of-more : (sought : Sought) (texts : List Text) (text : Text) → Some (kept_more (shown sought text ∷ []) (kept_of sought texts)) ≡ kept_of sought (texts ++ text ∷ [])
kept_of-more sought [] text = refl
kept_of-more sought (first ∷ texts) text = ap Some (sym (map-append (shown sought) (first ∷ texts) (text ∷ [])))

-- operands are no option
option-operands : (name : OptionName) → bytes_eq (option_word name) (codes "operands") ≡ false
option-operands options.Sessions = refl
option-operands options.Turns = refl
option-operands options.Queues = refl
option-operands options.Idle = refl
option-operands options.Limit = refl
option-operands options.Dump = refl
option-operands options.Script = refl
option-operands options.Changes = refl
option-operands options.Why = refl

operands-option : (name : OptionName) → bytes_eq (codes "operands") (option_word name) ≡ false
operands-option name = bytes_eq-back (codes "operands") (option_word name) ∙ option-operands name

-- things of one name are one
pub same-id : (own other : Sought) → bytes_eq (id_of own) (id_of other) ≡ true → own ≡ other
same-id Operands Operands is = refl
same-id Operands (Arguments name) is = (let clash : true ≡ false = sym is ∙ operands-option name in cc)
same-id (Arguments name) Operands is = (let clash : true ≡ false = sym is ∙ option-operands name in cc)
same-id (Arguments name) (Arguments other) is = ap Arguments (option_word-once name other ((bytes_eq-Decides (option_word name) (option_word other)).0 is))

option-same : (name other : OptionName) → bytes_eq (option_word name) (option_word other) ≡ is_same_option other name
option-same name other = bytes_eq-back (option_word name) (option_word other)

-- the item gives this text of its own
abbrev pub Gives : Item → Sought → Text → Type 0
Gives item own text = (sought : Sought) → item_texts sought item ≡ cond (bytes_eq (id_of own) (id_of sought)) (text ∷ []) []

operand-gives : (word : Text) → Gives (Operand word) Operands word
operand-gives word Operands = refl
operand-gives word (Arguments name) = rw (operands-option name) refl

flag-gives : (name : OptionName) → Gives (Flag name) (Arguments name) []
flag-gives name Operands = rw (option-operands name) refl
flag-gives name (Arguments other) = rw (option-same name other) refl

pub joined-gives : (name : OptionName) (text : Text) → Gives (Joined name text) (Arguments name) text
joined-gives name text Operands = rw (option-operands name) refl
joined-gives name text (Arguments other) = rw (option-same name other) refl

pub apart-gives : (name : OptionName) (text : Text) → Gives (Apart name text) (Arguments name) text
apart-gives name text Operands = rw (option-operands name) refl
apart-gives name text (Arguments other) = rw (option-same name other) refl

-- the rows after a use keep the item too
use-fits : (rows : List Kept) (given : Given) (own : Sought) (text : Text) (item : Item) → ((sought : Sought) → all_of (id_of sought) rows ≡ kept_of sought (given sought)) → Gives item own text
    → (sought : Sought) → all_of (id_of sought) (with_values (id_of own) AsWritten CommandLine (shown own text ∷ []) rows) ≡ kept_of sought (with_item item given sought)
use-fits rows given own text item fits gives sought =
    all_of-with_values (id_of own) (id_of sought) AsWritten CommandLine (shown own text ∷ []) rows
    ∙ ap (after_use (id_of own) (id_of sought) (shown own text ∷ [])) (fits sought)
    ∙ by (bytes_eq (id_of own) (id_of sought)) refl
    ∙ ap (λ (more : List Text). kept_of sought (given sought ++ more)) (sym (gives sought))
  where
    by : (b : Bool) → bytes_eq (id_of own) (id_of sought) ≡ b → cond b (Some (kept_more (shown own text ∷ []) (kept_of sought (given sought)))) (kept_of sought (given sought)) ≡ kept_of sought (given sought ++ cond b (text ∷ []) [])
    by true is = ap (λ (one : Sought). Some (kept_more (shown one text ∷ []) (kept_of sought (given sought)))) (same-id own sought is) ∙ kept_of-more sought (given sought) text
    by false is = ap (kept_of sought) (sym (append-nil (given sought)))

-- nothing was given of what has no row
none-kept : (sought : Sought) (texts : List Text) → is_some (kept_of sought texts) ≡ false → texts ≡ []
none-kept sought [] none = refl
none-kept sought (text ∷ texts) none = absurd (cc)

pub none-given : (rows : List Kept) (given : Given) (own : Sought) → Holds rows given → has_row (id_of own) rows ≡ false → given own ≡ []
none-given rows given own holds absent = none-kept own (given own) (sym (has_row-kept (id_of own) rows ∙ ap is_some (holds.fits own)) ∙ absent)

-- what was not given has no row
pub absent-row : (rows : List Kept) (given : Given) (own : Sought) → Holds rows given → given own ≡ [] → has_row (id_of own) rows ≡ false
absent-row rows given own holds none = has_row-kept (id_of own) rows ∙ ap is_some (holds.fits own ∙ ap (kept_of own) none)

use-once : (rows : List Kept) (given : Given) (own : Sought) (text : Text) (item : Item) → Holds rows given → Gives item own text → (given own ≡ []) → (name : OptionName) → length (with_item item given (Arguments name)) ≤ 1
use-once rows given own text item holds gives none name =
    subst (λ (texts : List Text). length texts ≤ 1) (ap (λ (more : List Text). given (Arguments name) ++ more) (sym (gives (Arguments name)))) (by (bytes_eq (id_of own) (option_word name)) refl)
  where
    by : (b : Bool) → bytes_eq (id_of own) (option_word name) ≡ b → length (given (Arguments name) ++ cond b (text ∷ []) []) ≤ 1
    by true is =
        let empty : given (Arguments name) ≡ [] = subst (λ (one : Sought). given one ≡ []) (same-id own (Arguments name) is) none in
        subst (λ (texts : List Text). length (texts ++ text ∷ []) ≤ 1) (sym empty) (omega arith)
    by false is = subst (λ (texts : List Text). length texts ≤ 1) (sym (append-nil (given (Arguments name)))) (holds.once name)

-- an operand
pub operand-holds : (rows : List Kept) (given : Given) (word : Text) → Holds rows given → Holds (used operand (word ∷ []) rows) (with_item (Operand word) given)
operand-holds rows given word holds = record {
  fits = use-fits rows given Operands word (Operand word) holds.fits (operand-gives word);
  once = λ name. subst (λ (texts : List Text). length texts ≤ 1) (sym (append-nil (given (Arguments name)))) (holds.once name);
}

only-repeats : (b : Bool) (repeats : ErrorKind) → or_else (cond (b && true) (repeats ∷ []) []) [] ≡ [] → b ≡ false
only-repeats true repeats is = absurd (cc)
only-repeats false repeats is = refl

-- an option's use is refused where the option has a row, and only there
pub value-absent : (word value : Text) (rows : List Kept) → use_fault false (option_by true word) (value ∷ []) rows ≡ [] → has_row word rows ≡ false
value-absent word value rows passes = only-repeats (has_row word rows) kind.ArgumentConflict passes

pub value-passes : (word value : Text) (rows : List Kept) → has_row word rows ≡ false → use_fault false (option_by true word) (value ∷ []) rows ≡ []
value-passes word value rows absent = rw absent refl

pub flag-absent : (word : Text) (rows : List Kept) → use_fault false (option_by false word) [] rows ≡ [] → has_row word rows ≡ false
flag-absent word rows passes = only-repeats (has_row word rows) kind.ArgumentConflict passes

pub flag-passes : (word : Text) (rows : List Kept) → has_row word rows ≡ false → use_fault false (option_by false word) [] rows ≡ []
flag-passes word rows absent = rw absent refl

-- an option's value
pub value-holds : (rows : List Kept) (given : Given) (name : OptionName) (value : Text) (item : Item) → takes_argument name ≡ true → Gives item (Arguments name) value → Holds rows given → has_row (option_word name) rows ≡ false
    → Holds (used (option_by true (option_word name)) (value ∷ []) rows) (with_item item given)
value-holds rows given name value item takes gives holds absent =
    let own : shown (Arguments name) value ≡ value = rw takes refl in
    record {
      fits = λ sought. subst (λ (base : List Kept). all_of (id_of sought) (with_values (option_word name) AsWritten CommandLine (value ∷ []) base) ≡ kept_of sought (with_item item given sought)) (sym (without-absent (option_word name) rows absent))
          (subst (λ (text : Text). all_of (id_of sought) (with_values (option_word name) AsWritten CommandLine (text ∷ []) rows) ≡ kept_of sought (with_item item given sought)) own (use-fits rows given (Arguments name) value item holds.fits gives sought));
      once = use-once rows given (Arguments name) value item holds gives (none-given rows given (Arguments name) holds absent);
    }

-- a flag
pub flag-holds : (rows : List Kept) (given : Given) (name : OptionName) → takes_argument name ≡ false → Holds rows given → has_row (option_word name) rows ≡ false
    → Holds (used (option_by false (option_word name)) [] rows) (with_item (Flag name) given)
flag-holds rows given name takes holds absent =
    let own : shown (Arguments name) [] ≡ codes "true" = rw takes refl in
    record {
      fits = λ sought. subst (λ (base : List Kept). all_of (id_of sought) (with_values (option_word name) AsWritten CommandLine (codes "true" ∷ []) base) ≡ kept_of sought (with_item (Flag name) given sought)) (sym (without-absent (option_word name) rows absent))
          (subst (λ (text : Text). all_of (id_of sought) (with_values (option_word name) AsWritten CommandLine (text ∷ []) rows) ≡ kept_of sought (with_item (Flag name) given sought)) own (use-fits rows given (Arguments name) [] (Flag name) holds.fits (flag-gives name) sought));
      once = use-once rows given (Arguments name) [] (Flag name) holds (flag-gives name) (none-given rows given (Arguments name) holds absent);
    }
