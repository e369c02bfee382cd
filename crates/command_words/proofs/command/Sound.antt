-- Words without a fault are a line, of which the rows keep the texts.
use Rattle.std.proofs.Common.{◌≡◌, ◌∙◌, ℕ, Bool, true, false, List, [], ◌∷◌, ◌++◌, Option, Some, None, refl, sym, ap, subst}
use Rattle.std.specs.Prelude.{codes}
use Rattle.std.specs.List.{AllByRecursion}
use Rattle.std.specs.Str.{IsUtf8}
use Rattle.clap.specs.Walk.{Row as Kept, Text, Waiting, option as awaits, used, used_by_id, Rule}
use Rattle.clap.specs.Faults.{use_fault, walk_fault}
use Rattle.std.specs.Option.{option_map_or}
use Rattle.command_words.specs.declared.table.OptionName.{OptionName}
use Rattle.command_words.specs.Table.{Row, option_word}
use Rattle.command_words.specs.command.Line.{Item, Operand, Flag, Joined, Apart, Line, IsItem, item_words, line_words, long, rest_texts, texts_of}
use Rattle.command_words.proofs.command.Rules.{option_by}
use Rattle.command_words.proofs.command.Steps.{Pending, at, free, owed, settle, awaited-turn, delimiter-turn, flag-turn, joined-turn, operand-turn, option-turn, short-refused, unknown-refused, valued-refused}
use Rattle.command_words.proofs.command.Words.{Form, Plain, Delimiter, Long, Short, form_of}
use Rattle.command_words.proofs.command.Options.{Finds, IsReadable, value-by-id, Kind, Unknown, Valued, Opened, Assigned, Flagged, kind_of}
use Rattle.command_words.proofs.command.Uses.{Given, Holds, holds-same, with_item, operand-holds, value-holds, flag-holds, value-absent, flag-absent, joined-gives, apart-gives}
use Rattle.command_words.proofs.command.Lines.{put, texts-empty, texts-put, words-put}
use Rattle.command_words.proofs.command.Walks.{both-pass, end_rows, end_rows-more, passes, refused-fails, total, trailing-holds, trailing-owed, unvalued-fails}

-- words that are a line, of which rows keep the texts behind those that were given before
pub record Lined (row : Row) (words : List Text) (given : Given) (rows : List Kept) : Type 0 where
  pub line : Line
  pub words_are : words ≡ line_words line
  pub are : AllByRecursion (IsItem row) line.items
  pub holds : Holds rows (λ sought. given sought ++ texts_of sought line)

-- an item before a line
put-first : (row : Row) (words : List Text) (given : Given) (rows : List Kept) (item : Item) → IsItem row item → Lined row words (with_item item given) rows → Lined row (item_words item ++ words) given rows
put-first row words given rows item is lined = record {
  line = put item lined.line;
  words_are = ap (λ (later : List Text). item_words item ++ later) lined.words_are ∙ sym (words-put item lined.line);
  are = (is, lined.are);
  holds = holds-same rows _ _ (λ sought. texts-put given item lined.line sought) lined.holds;
}

no-words : (row : Row) (given : Given) (rows : List Kept) → Holds rows given → Lined row [] given rows
no-words row given rows holds = record {
  line = record { items = []; rest = None };
  words_are = refl;
  are = tt;
  holds = holds-same rows given _ (λ sought. texts-empty given sought) holds;
}

rest-line : (row : Row) (words : List Text) (given : Given) (rows : List Kept) → Holds rows (λ sought. given sought ++ rest_texts sought (Some words)) → Lined row (codes "--" ∷ words) given rows
rest-line row words given rows holds = record {
  line = record { items = []; rest = Some words };
  words_are = refl;
  are = tt;
  holds = holds;
}

-- the rows hold what was given, if what is pending has no fault
abbrev Settles : Row → List Kept → Pending → Given → Type 0
Settles row rows pending given = owed row rows pending ≡ [] → Holds (settle row rows pending) given

-- words where nothing waits for a value
abbrev Free : Row → List Text → Type 0
Free row words = (after_operand : Bool) (rows : List Kept) (pending : Pending) (given : Given) → Settles row rows pending given → total row (at (free after_operand) false rows pending) words ≡ []
    → Lined row words given (end_rows row (at (free after_operand) false rows pending) words)

-- words behind an option that has no value yet
abbrev Awaited : Row → List Text → Type 0
Awaited row words = (name : OptionName) (rows : List Kept) (given : Given) → Finds row true name → Holds rows given → total row (at (awaits (option_word name)) false rows (Some (option_word name, []))) words ≡ []
    → Lined row (long name ∷ words) given (end_rows row (at (awaits (option_word name)) false rows (Some (option_word name, []))) words)

-- an option's value that is pending
pub settles-value : (row : Row) → IsReadable row → (name : OptionName) (rows : List Kept) (given : Given) (value : Text) → Finds row true name → Holds rows given → Settles row rows (Some (option_word name, value ∷ [])) (with_item (Apart name value) given)
settles-value row readable name rows given value own holds none =
    let found = value-by-id row readable name own in
    let fault = sym (ap (λ (rule : Option Rule). option_map_or (λ (one : Rule). use_fault false one (value ∷ []) rows) rule []) found) ∙ none in
    subst (λ (rule : Option Rule). Holds (used_by_id rule (value ∷ []) rows) (with_item (Apart name value) given)) (sym found)
    (value-holds rows given name value (Apart name value) own.takes_is (apart-gives name value) holds (value-absent (option_word name) value rows fault))

module _ (row : Row) (readable : IsReadable row) (words : List Text) (later : Free row words) (awaited : Awaited row words) where
  -- words as they stand, by other words
  own-words : (own other : List Text) (given : Given) (rows : List Kept) → own ≡ other → Lined row own given rows → Lined row other given rows
  own-words own other given rows same lined = subst (λ (all : List Text). Lined row all given rows) same lined

  dashed-free : (waiting : Waiting) (rows : List Kept) (pending : Pending) (given : Given) (x : ℕ) (xs : Text) → Settles row rows pending given → total row (at waiting false rows pending) ((45 ∷ 45 ∷ x ∷ xs) ∷ words) ≡ []
      → Kind row (x ∷ xs) → Lined row ((45 ∷ 45 ∷ x ∷ xs) ∷ words) given (end_rows row (at waiting false rows pending) ((45 ∷ 45 ∷ x ∷ xs) ∷ words))
  dashed-free waiting rows pending given x xs settles none (Unknown parts cut found) = absurd (refused-fails row _ _ words (unknown-refused row waiting rows pending x xs parts cut found) none)
  dashed-free waiting rows pending given x xs settles none (Valued word value cut found) = absurd (refused-fails row _ _ words (valued-refused row waiting rows pending x xs word value cut found) none)
  dashed-free waiting rows pending given x xs settles none (Opened name own is cut) =
      let turns = option-turn row waiting rows pending x xs (option_word name) cut own.found in
      let passed = passes row _ _ _ words _ turns none in
      let lined = awaited name (settle row rows pending) given own (settles passed.word) passed.later in
      own-words _ _ given _ (ap (λ (body : Text). (45 ∷ 45 ∷ body) ∷ words) (sym is)) (subst (Lined row (long name ∷ words) given) (sym (end_rows-more row _ _ _ words _ turns)) lined)
  dashed-free waiting rows pending given x xs settles none (Assigned name value own is cut) =
      let turns = joined-turn row waiting rows pending x xs (option_word name) value cut own.found in
      let passed = passes row _ _ _ words _ turns none in
      let parts = both-pass _ _ passed.word in
      let holds = settles parts.0 in
      let base = settle row rows pending in
      let used_holds = value-holds base given name value (Joined name value) own.takes_is (joined-gives name value) holds (value-absent (option_word name) value base parts.1) in
      let lined = later false (used (option_by true (option_word name)) (value ∷ []) base) None (with_item (Joined name value) given) (λ _. used_holds) passed.later in
      let put = put-first row words given _ (Joined name value) (own.of_row, own.takes_is) lined in
      own-words _ _ given _ (ap (λ (body : Text). (45 ∷ 45 ∷ body) ∷ words) (sym is)) (subst (Lined row (item_words (Joined name value) ++ words) given) (sym (end_rows-more row _ _ _ words _ turns)) put)
  dashed-free waiting rows pending given x xs settles none (Flagged name own is cut) =
      let turns = flag-turn row waiting rows pending x xs (option_word name) cut own.found in
      let passed = passes row _ _ _ words _ turns none in
      let parts = both-pass _ _ passed.word in
      let base = settle row rows pending in
      let used_holds = flag-holds base given name own.takes_is (settles parts.0) (flag-absent (option_word name) base parts.1) in
      let lined = later false (used (option_by false (option_word name)) [] base) None (with_item (Flag name) given) (λ _. used_holds) passed.later in
      let put = put-first row words given _ (Flag name) (own.of_row, own.takes_is) lined in
      own-words _ _ given _ (ap (λ (body : Text). (45 ∷ 45 ∷ body) ∷ words) (sym is)) (subst (Lined row (item_words (Flag name) ++ words) given) (sym (end_rows-more row _ _ _ words _ turns)) put)

  -- a word that begins with two dashes settles what is pending, or is refused
  dashed-owed : (waiting : Waiting) (rows : List Kept) (pending : Pending) (x : ℕ) (xs : Text) → total row (at waiting false rows pending) ((45 ∷ 45 ∷ x ∷ xs) ∷ words) ≡ [] → Kind row (x ∷ xs) → owed row rows pending ≡ []
  dashed-owed waiting rows pending x xs none (Unknown parts cut found) = absurd (refused-fails row _ _ words (unknown-refused row waiting rows pending x xs parts cut found) none)
  dashed-owed waiting rows pending x xs none (Valued word value cut found) = absurd (refused-fails row _ _ words (valued-refused row waiting rows pending x xs word value cut found) none)
  dashed-owed waiting rows pending x xs none (Opened name own is cut) = (passes row _ _ _ words _ (option-turn row waiting rows pending x xs (option_word name) cut own.found) none).word
  dashed-owed waiting rows pending x xs none (Assigned name value own is cut) =
      (both-pass _ _ (passes row _ _ _ words _ (joined-turn row waiting rows pending x xs (option_word name) value cut own.found) none).word).0
  dashed-owed waiting rows pending x xs none (Flagged name own is cut) = (both-pass _ _ (passes row _ _ _ words _ (flag-turn row waiting rows pending x xs (option_word name) cut own.found) none).word).0

  free-more : (word : Text) → Form word → Free row (word ∷ words)
  free-more word (Plain bare is) after_operand rows pending given settles none =
      let turns = operand-turn row after_operand rows pending word bare in
      let passed = passes row _ _ word words _ turns none in
      let base = settle row rows pending in
      let lined = later true base (Some (codes "operands", word ∷ [])) (with_item (Operand word) given) (λ _. operand-holds base given word (settles passed.word)) passed.later in
      subst (Lined row (word ∷ words) given) (sym (end_rows-more row _ _ word words _ turns)) (put-first row words given _ (Operand word) is lined)
  free-more word (Delimiter is) after_operand rows pending given settles none =
      let waiting = free after_operand in
      let turns = delimiter-turn row waiting rows pending in
      let passed = passes row _ _ (codes "--") words _ turns (ap (λ (own : Text). total row (at waiting false rows pending) (own ∷ words)) (sym is) ∙ none) in
      let holds = trailing-holds row words waiting rows pending given (settles (trailing-owed row waiting rows pending words passed.later)) in
      subst (λ (own : Text). Lined row (own ∷ words) given (end_rows row (at waiting false rows pending) (own ∷ words))) (sym is)
      (subst (Lined row (codes "--" ∷ words) given) (sym (end_rows-more row _ _ (codes "--") words _ turns)) (rest-line row words given _ holds))
  free-more word (Long x xs is) after_operand rows pending given settles none =
      let waiting = free after_operand in
      subst (λ (own : Text). Lined row (own ∷ words) given (end_rows row (at waiting false rows pending) (own ∷ words))) (sym is)
      (dashed-free waiting rows pending given x xs settles (ap (λ (own : Text). total row (at waiting false rows pending) (own ∷ words)) (sym is) ∙ none) (kind_of row (x ∷ xs)))
  free-more word (Short x c xs is other first) after_operand rows pending given settles none =
      let waiting = free after_operand in
      absurd (refused-fails row _ _ words (short-refused row waiting rows pending x c xs other first) (ap (λ (own : Text). total row (at waiting false rows pending) (own ∷ words)) (sym is) ∙ none))

  awaited-more : (word : Text) → Form word → Awaited row (word ∷ words)
  awaited-more word (Plain bare is) name rows given own holds none =
      let id = option_word name in
      let turns = awaited-turn row id rows word bare (value-by-id row readable name own) in
      let passed = passes row _ _ word words _ turns none in
      let settles : Settles row rows (Some (id, word ∷ [])) (with_item (Apart name word) given) = settles-value row readable name rows given word own holds in
      let lined = later false rows (Some (id, word ∷ [])) (with_item (Apart name word) given) settles passed.later in
      subst (Lined row (long name ∷ word ∷ words) given) (sym (end_rows-more row _ _ word words _ turns)) (put-first row words given _ (Apart name word) (own.of_row, own.takes_is, is) lined)
  awaited-more word (Delimiter is) name rows given own holds none =
      let id = option_word name in
      let waiting = awaits id in
      let turns = delimiter-turn row waiting rows (Some (id, [])) in
      let passed = passes row _ _ (codes "--") words _ turns (ap (λ (own : Text). total row (at waiting false rows (Some (id, []))) (own ∷ words)) (sym is) ∙ none) in
      absurd (unvalued-fails row id rows (value-by-id row readable name own) (trailing-owed row waiting rows (Some (id, [])) words passed.later))
  awaited-more word (Long x xs is) name rows given own holds none =
      let id = option_word name in
      absurd (unvalued-fails row id rows (value-by-id row readable name own)
      (dashed-owed (awaits id) rows (Some (id, [])) x xs (ap (λ (own : Text). total row (at (awaits id) false rows (Some (id, []))) (own ∷ words)) (sym is) ∙ none) (kind_of row (x ∷ xs))))
  awaited-more word (Short x c xs is other first) name rows given own holds none =
      let id = option_word name in
      absurd (refused-fails row _ _ words (short-refused row (awaits id) rows (Some (id, [])) x c xs other first) (ap (λ (own : Text). total row (at (awaits id) false rows (Some (id, []))) (own ∷ words)) (sym is) ∙ none))

-- words without a fault are a line
pub sound : (row : Row) → IsReadable row → (words : List Text) → AllByRecursion IsUtf8 words → Free row words × Awaited row words
unfolding walk_fault
sound row readable [] utf8 = (
  λ after_operand rows pending given settles none. no-words row given _ (settles none),
  λ name rows given own holds none. absurd (unvalued-fails row (option_word name) rows (value-by-id row readable name own) none),
)
sound row readable (word ∷ words) utf8 =
    let later = sound row readable words utf8.1 in
    (free-more row readable words later.0 later.1 word (form_of word utf8.0), awaited-more row readable words later.0 later.1 word (form_of word utf8.0))
