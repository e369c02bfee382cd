-- The words of a line have no fault, and the rows keep its texts.
use Rattle.std.proofs.Common.{◌≡◌, ◌∙◌, ◌≤◌, Bool, true, false, List, [], ◌∷◌, ◌++◌, length, Option, Some, None, refl, sym, ap, subst, arith}
use Rattle.std.specs.Prelude.{Contains, codes}
use Rattle.std.specs.List.{AllByRecursion}
use Rattle.std.specs.Option.{option_map_or}
use Rattle.std.proofs.lemmas.List.{length-append}
use Rattle.clap.specs.Walk.{Row as Kept, Rule, Text, Waiting, Walk, idle, option as awaits, used, used_by_id}
use Rattle.clap.specs.Kinds.{Kinds, or_else}
use Rattle.clap.specs.Lexer.{name_and_value}
use Rattle.clap.specs.Faults.{use_fault, walk_fault}
use Rattle.command_words.specs.declared.table.OptionName.{OptionName}
use Rattle.command_words.specs.declared.table.Sought.{Sought}
use Rattle.command_words.specs.declared.table.Sought.TheVariants.{Arguments}
use Rattle.command_words.specs.Table.{Row, option_word}
use Rattle.command_words.specs.command.Line.{Item, Operand, Flag, Joined, Apart, Line, IsItem, item_texts, item_words, line_words, long, texts_of}
use Rattle.command_words.proofs.table.Tables.{same_option}
use Rattle.command_words.proofs.command.Rules.{option_by}
use Rattle.command_words.proofs.command.Steps.{Pending, Turns, at, free, owed, settle, awaited-turn, delimiter-turn, flag-turn, joined-turn, operand-turn, option-turn}
use Rattle.command_words.proofs.command.Words.{operand-bare, option_word-begins, option_word-parts, option_word-whole}
use Rattle.command_words.proofs.command.Options.{Finds, IsReadable, finds, value-by-id}
use Rattle.command_words.proofs.command.Lines.{own-texts-put, put, texts-empty, texts-put, words-put}
use Rattle.command_words.proofs.command.Uses.{Given, Holds, absent-row, holds-same, with_item, operand-holds, value-holds, flag-holds, value-passes, flag-passes, joined-gives, apart-gives}
use Rattle.command_words.proofs.command.Walks.{end_rows, end_rows-more, pass-both, total, total-more, trailing-holds, trailing-passes}

-- the words have no fault, and the rows hold what is given
pub record Passed (row : Row) (walk : Walk) (words : List Text) (given : Given) : Type 0 where
  pub none : total row walk words ≡ []
  pub holds : Holds (end_rows row walk words) given

pub passed-same : (row : Row) (walk : Walk) (words : List Text) (one other : Given) → ((sought : Sought) → one sought ≡ other sought) → Passed row walk words one → Passed row walk words other
passed-same row walk words one other same passed = record { none = passed.none; holds = holds-same _ one other same passed.holds }

-- a word without a fault before words that pass
passed-more : (row : Row) (walk after : Walk) (word : Text) (words : List Text) (fault : Kinds) (given : Given) → Turns row walk word fault after → fault ≡ [] → Passed row after words given → Passed row walk (word ∷ words) given
passed-more row walk after word words fault given turns none later = record {
  none = total-more row walk after word words fault turns ∙ pass-both fault _ none later.none;
  holds = subst (λ (rows : List Kept). Holds rows given) (sym (end_rows-more row walk after word words fault turns)) later.holds;
}

-- `--name` and `--name=text` as words that begin with two dashes and go on
long-turn : (row : Row) (waiting : Waiting) (rows : List Kept) (pending : Pending) (name : OptionName) → Finds row true name
    → Turns row (at waiting false rows pending) (long name) (owed row rows pending) (at (awaits (option_word name)) false (settle row rows pending) (Some (option_word name, [])))
long-turn row waiting rows pending name own =
    let begins = option_word-begins name in
    subst (λ (body : Text). Turns row (at waiting false rows pending) (45 ∷ 45 ∷ body) (owed row rows pending) (at (awaits (option_word name)) false (settle row rows pending) (Some (option_word name, [])))) (sym begins.is)
    (option-turn row waiting rows pending begins.first begins.more (option_word name) (ap name_and_value (sym begins.is) ∙ option_word-whole name) own.found)

set-turn : (row : Row) (waiting : Waiting) (rows : List Kept) (pending : Pending) (name : OptionName) → Finds row false name
    → Turns row (at waiting false rows pending) (long name) (or_else (owed row rows pending) (use_fault false (option_by false (option_word name)) [] (settle row rows pending)))
    (at idle false (used (option_by false (option_word name)) [] (settle row rows pending)) None)
set-turn row waiting rows pending name own =
    let begins = option_word-begins name in
    subst (λ (body : Text). Turns row (at waiting false rows pending) (45 ∷ 45 ∷ body) (or_else (owed row rows pending) (use_fault false (option_by false (option_word name)) [] (settle row rows pending)))
    (at idle false (used (option_by false (option_word name)) [] (settle row rows pending)) None)) (sym begins.is)
    (flag-turn row waiting rows pending begins.first begins.more (option_word name) (ap name_and_value (sym begins.is) ∙ option_word-whole name) own.found)

value-turn : (row : Row) (waiting : Waiting) (rows : List Kept) (pending : Pending) (name : OptionName) (value : Text) → Finds row true name
    → Turns row (at waiting false rows pending) (long name ++ 61 ∷ value) (or_else (owed row rows pending) (use_fault false (option_by true (option_word name)) (value ∷ []) (settle row rows pending)))
    (at idle false (used (option_by true (option_word name)) (value ∷ []) (settle row rows pending)) None)
value-turn row waiting rows pending name value own =
    let begins = option_word-begins name in
    let body : option_word name ++ 61 ∷ value ≡ begins.first ∷ (begins.more ++ 61 ∷ value) = ap (λ (front : Text). front ++ 61 ∷ value) begins.is in
    subst (λ (body : Text). Turns row (at waiting false rows pending) (45 ∷ 45 ∷ body) (or_else (owed row rows pending) (use_fault false (option_by true (option_word name)) (value ∷ []) (settle row rows pending)))
    (at idle false (used (option_by true (option_word name)) (value ∷ []) (settle row rows pending)) None)) (sym body)
    (joined-turn row waiting rows pending begins.first (begins.more ++ 61 ∷ value) (option_word name) value (ap name_and_value (sym body) ∙ option_word-parts name value) own.found)

-- each option of the row is given once at most in the end
abbrev OnceIn : Row → Given → Line → Type 0
OnceIn row given line = (name : OptionName) → Contains row.options name → length (given (Arguments name) ++ texts_of (Arguments name) line) ≤ 1

once-put : (row : Row) (given : Given) (item : Item) (line : Line) → OnceIn row given (put item line) → OnceIn row (with_item item given) line
once-put row given item line once name of_row = subst (λ (texts : List Text). length texts ≤ 1) (sym (texts-put given item line (Arguments name))) (once name of_row)

-- an option that is given now was not given before
no-more : (before now later : List Text) (text : Text) → now ≡ text ∷ [] → length (before ++ (now ++ later)) ≤ 1 → before ≡ []
no-more [] now later text is once = refl
no-more (first ∷ before) now later text is once =
    absurd (omega (arith, length-append before (now ++ later), length-append now later, ap length is, once))

not-before : (row : Row) (given : Given) (item : Item) (line : Line) (name : OptionName) (text : Text) → item_texts (Arguments name) item ≡ text ∷ [] → Contains row.options name → OnceIn row given (put item line) → given (Arguments name) ≡ []
not-before row given item line name text is of_row once =
    no-more (given (Arguments name)) (item_texts (Arguments name) item) (texts_of (Arguments name) line) text is
    (subst (λ (texts : List Text). length (given (Arguments name) ++ texts) ≤ 1) (own-texts-put item line (Arguments name)) (once name of_row))

-- a line of these items
abbrev Complete : Row → List Item → Option (List Text) → Type 0
Complete row items rest = (after_operand : Bool) (rows : List Kept) (pending : Pending) (given : Given) → owed row rows pending ≡ [] → Holds (settle row rows pending) given → OnceIn row given (record { items = items; rest = rest })
    → Passed row (at (free after_operand) false rows pending) (line_words (record { items = items; rest = rest })) (λ sought. given sought ++ texts_of sought (record { items = items; rest = rest }))

no-items : (row : Row) (rest : Option (List Text)) → Complete row [] rest
unfolding walk_fault
no-items row None after_operand rows pending given none holds once =
    passed-same row _ [] given _ (λ sought. texts-empty given sought) (record { none = none; holds = holds })
no-items row (Some words) after_operand rows pending given none holds once =
    let waiting = free after_operand in
    passed-more row _ _ (codes "--") words _ _ (delimiter-turn row waiting rows pending) refl
    (record { none = trailing-passes row words waiting rows pending none; holds = trailing-holds row words waiting rows pending given holds })

module _ (row : Row) (readable : IsReadable row) (items : List Item) (rest : Option (List Text)) (later : Complete row items rest) where
  abbrev line : Line
  line = record { items = items; rest = rest }

  -- the words of an item, and of the line after it
  from-item : (walk : Walk) (item : Item) (given : Given) → Passed row walk (item_words item ++ line_words line) (λ sought. with_item item given sought ++ texts_of sought line) → Passed row walk (line_words (put item line)) (λ sought. given sought ++ texts_of sought (put item line))
  from-item walk item given passed =
      subst (λ (words : List Text). Passed row walk words (λ sought. given sought ++ texts_of sought (put item line))) (sym (words-put item line))
      (passed-same row walk _ _ _ (λ sought. texts-put given item line sought) passed)

  item-more : (item : Item) → IsItem row item → Complete row (item ∷ items) rest
  item-more (Operand word) is after_operand rows pending given none holds once =
      let base = settle row rows pending in
      from-item _ (Operand word) given (passed-more row _ _ word _ _ _ (operand-turn row after_operand rows pending word (operand-bare word is)) none
      (later true base (Some (codes "operands", word ∷ [])) (with_item (Operand word) given) refl (operand-holds base given word holds) (once-put row given (Operand word) line once)))
  item-more (Flag name) is after_operand rows pending given none holds once =
      let base = settle row rows pending in
      let own = finds row name false is.0 (readable.named name is.0) is.1 in
      let gives : item_texts (Arguments name) (Flag name) ≡ [] ∷ [] = rw (same_option name) refl in
      let absent = absent-row base given (Arguments name) holds (not-before row given (Flag name) line name [] gives is.0 once) in
      from-item _ (Flag name) given (passed-more row _ _ (long name) _ _ _ (set-turn row (free after_operand) rows pending name own) (pass-both _ _ none (flag-passes (option_word name) base absent))
      (later false (used (option_by false (option_word name)) [] base) None (with_item (Flag name) given) refl (flag-holds base given name is.1 holds absent) (once-put row given (Flag name) line once)))
  item-more (Joined name value) is after_operand rows pending given none holds once =
      let base = settle row rows pending in
      let own = finds row name true is.0 (readable.named name is.0) is.1 in
      let gives : item_texts (Arguments name) (Joined name value) ≡ value ∷ [] = rw (same_option name) refl in
      let absent = absent-row base given (Arguments name) holds (not-before row given (Joined name value) line name value gives is.0 once) in
      from-item _ (Joined name value) given (passed-more row _ _ (long name ++ 61 ∷ value) _ _ _ (value-turn row (free after_operand) rows pending name value own) (pass-both _ _ none (value-passes (option_word name) value base absent))
      (later false (used (option_by true (option_word name)) (value ∷ []) base) None (with_item (Joined name value) given) refl (value-holds base given name value (Joined name value) is.1 (joined-gives name value) holds absent) (once-put row given (Joined name value) line once)))
  item-more (Apart name value) is after_operand rows pending given none holds once =
      let base = settle row rows pending in
      let id = option_word name in
      let own = finds row name true is.0 (readable.named name is.0) is.1 in
      let found = value-by-id row readable name own in
      let gives : item_texts (Arguments name) (Apart name value) ≡ value ∷ [] = rw (same_option name) refl in
      let absent = absent-row base given (Arguments name) holds (not-before row given (Apart name value) line name value gives is.0 once) in
      let pending_none : owed row base (Some (id, value ∷ [])) ≡ [] = ap (λ (rule : Option Rule). option_map_or (λ (one : Rule). use_fault false one (value ∷ []) base) rule []) found ∙ value-passes id value base absent in
      let pending_holds : Holds (settle row base (Some (id, value ∷ []))) (with_item (Apart name value) given) =
      subst (λ (rule : Option Rule). Holds (used_by_id rule (value ∷ []) base) (with_item (Apart name value) given)) (sym found) (value-holds base given name value (Apart name value) is.1 (apart-gives name value) holds absent) in
      let bare = operand-bare value is.2 in
      from-item _ (Apart name value) given (passed-more row _ _ (long name) _ _ _ (long-turn row (free after_operand) rows pending name own) none
      (passed-more row _ _ value _ _ _ (awaited-turn row id base value bare found) refl
      (later false base (Some (id, value ∷ [])) (with_item (Apart name value) given) pending_none pending_holds (once-put row given (Apart name value) line once))))

-- the words of each line pass
pub complete : (row : Row) → IsReadable row → (items : List Item) (rest : Option (List Text)) → AllByRecursion (IsItem row) items → Complete row items rest
complete row readable [] rest are = no-items row rest
complete row readable (item ∷ items) rest are = item-more row readable items rest (complete row readable items rest are.1) item are.0
