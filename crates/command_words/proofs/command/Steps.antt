-- What clap's walk makes of one word, by the word's form.
use Rattle.std.proofs.Common.{◌≡◌, ◌∙◌, ℕ, Bool, true, false, cond, eqb, List, [], ◌∷◌, Option, Some, None, refl, ap}
use Rattle.std.specs.Prelude.{bytes_eq, codes, slice_get}
use Rattle.std.specs.Str.{chars}
use Rattle.clap.specs.Lexer.{long_of, short_of, name_and_value}
use Rattle.std.proofs.lemmas.Slice.Eq.{bytes_eq-Decides}
use Rattle.std.proofs.Math.Bool.{and-false}
use Rattle.clap.specs.Walk.{Held, Rule, Text, Waiting, Walk, idle, option as awaits, positional, positional_held, is_pending, pushed, after_flag, after_step, arg_by_id, arg_by_long, long_met, settled_rows, used, walked}
use Rattle.clap.specs.Walk.{Row as Kept}
use Rattle.clap.specs.Kinds.{Kinds, or_else}
use Rattle.clap.specs.Faults.{bundle_fault, flags_fault, long_fault, positional_fault, settle_fault, step_fault, turn_fault, use_fault}
use Rattle.clap.specs.declared.error.kind.ErrorKind.{ErrorKind}
use Rattle.clap.specs.declared.error.kind.ErrorKind.TheVariants as kind
use Rattle.command_words.specs.Table.{Row}
use Rattle.command_words.proofs.command.Rules.{operand, option_by, rules, shape, by-short}

-- what is used and not yet settled: an argument's name and its values
abbrev pub Pending : Type 0
Pending = Option (Text × List Text)

abbrev pub held_at : List Kept → Pending → Held
held_at rows pending = record { rows = rows; pending = pending; skip = 0 }

-- where the walk over a row's words stands
abbrev pub at : Waiting → Bool → List Kept → Pending → Walk
at waiting trailing rows pending = record { held = held_at rows pending; waiting = waiting; position = 1; is_trailing = trailing; stopped = None }

-- nothing waits for a value
abbrev pub free : Bool → Waiting
free true = positional
free false = idle

-- the rows with the pending use, and the fault of it
abbrev pub settle : Row → List Kept → Pending → List Kept
settle row rows pending = settled_rows (rules row) pending rows

abbrev pub owed : Row → List Kept → Pending → Kinds
owed row rows pending = settle_fault (rules row) false (held_at rows pending)

-- the fault of a word, and where it leaves the walk
pub record Turns (row : Row) (walk : Walk) (word : Text) (fault : Kinds) (after : Walk) : Type 0 where
  pub faults : turn_fault (shape row) [] walk word ≡ fault
  pub leaves : walked (rules row) [] walk word ≡ after

-- clap finds no name in a word
pub record IsBare (word : Text) : Type 0 where
  pub delimiter : bytes_eq word (45 ∷ 45 ∷ []) ≡ false
  pub long : long_of word ≡ None
  pub short : short_of word ≡ None

-- one operand is one use: what is pending is settled, and the operand is pending
operand-fault : (row : Row) (rows : List Kept) (pending : Pending) → positional_fault (rules row) false operand (held_at rows pending) ≡ owed row rows pending
operand-fault row rows pending = ap (λ (b : Bool). cond b [] (owed row rows pending)) (and-false (is_pending operand pending))

operand-held : (row : Row) (rows : List Kept) (pending : Pending) (word : Text) → positional_held (rules row) operand word (held_at rows pending) ≡ held_at (settle row rows pending) (Some (codes "operands", word ∷ []))
operand-held row rows pending word = ap (λ (b : Bool). pushed (codes "operands") word (cond b (held_at rows pending) (held_at (settle row rows pending) None))) (and-false (is_pending operand pending))

abbrev walk_with : Held → Bool → Walk
walk_with held trailing = record { held = held; waiting = positional; position = 1; is_trailing = trailing; stopped = None }

operand-walk : (row : Row) (trailing : Bool) (rows : List Kept) (pending : Pending) (word : Text)
    → walk_with (positional_held (rules row) operand word (held_at rows pending)) trailing ≡ (at positional trailing (settle row rows pending) (Some (codes "operands", word ∷ [])))
operand-walk row trailing rows pending word =
    ap (λ (held : Held). walk_with held trailing) (operand-held row rows pending word)

-- an operand
pub operand-turn : (row : Row) (after_operand : Bool) (rows : List Kept) (pending : Pending) (word : Text) → IsBare word
    → Turns row (at (free after_operand) false rows pending) word (owed row rows pending) (at positional false (settle row rows pending) (Some (codes "operands", word ∷ [])))
unfolding walked
operand-turn row true rows pending word bare = record {
  faults = rw (bare.delimiter, bare.long, bare.short) (operand-fault row rows pending);
  leaves = rw (bare.delimiter, bare.long, bare.short) (operand-walk row false rows pending word);
}
operand-turn row false rows pending word bare = record {
  faults = rw (bare.delimiter, bare.long, bare.short) (operand-fault row rows pending);
  leaves = rw (bare.delimiter, bare.long, bare.short) (operand-walk row false rows pending word);
}

-- a word after `--`
pub trailing-turn : (row : Row) (waiting : Waiting) (rows : List Kept) (pending : Pending) (word : Text)
    → Turns row (at waiting true rows pending) word (owed row rows pending) (at positional true (settle row rows pending) (Some (codes "operands", word ∷ [])))
unfolding walked
trailing-turn row waiting rows pending word = record { faults = operand-fault row rows pending; leaves = operand-walk row true rows pending word }

-- `--`
pub delimiter-turn : (row : Row) (waiting : Waiting) (rows : List Kept) (pending : Pending) → Turns row (at waiting false rows pending) (codes "--") [] (at waiting true rows pending)
unfolding walked
delimiter-turn row idle rows pending = record { faults = refl; leaves = refl }
delimiter-turn row positional rows pending = record { faults = refl; leaves = refl }
delimiter-turn row (awaits id) rows pending = record { faults = refl; leaves = refl }

-- the value for which an option waits
pub awaited-turn : (row : Row) (id : Text) (rows : List Kept) (word : Text) → IsBare word → arg_by_id (rules row) id ≡ Some (option_by true id)
    → Turns row (at (awaits id) false rows (Some (id, []))) word [] (at idle false rows (Some (id, word ∷ [])))
unfolding walked
awaited-turn row id rows word bare found =
    let same : bytes_eq id id ≡ true = (bytes_eq-Decides id id).1 refl in
    record {
      faults = rw (bare.delimiter, bare.long, bare.short) refl;
      leaves = rw (bare.delimiter, bare.long, bare.short, found, same) refl;
    }

-- a word that begins with two dashes and goes on, by its name and what follows `=`
abbrev dashed_fault : Row → Waiting → List Kept → Pending → Text → Text × Option Text → Option Rule → Kinds
dashed_fault row waiting rows pending word parts found =
    let met = after_flag (rules row) waiting word (long_met (rules row) found parts.1 (held_at rows pending)).0 (long_met (rules row) found parts.1 (held_at rows pending)).1 in
    or_else (long_fault (rules row) false found parts.1 (held_at rows pending)) (step_fault (shape row) 1 met.0 met.1)

abbrev dashed_walk : Row → Waiting → List Kept → Pending → Text → Text × Option Text → Option Rule → Walk
dashed_walk row waiting rows pending word parts found =
    let met = after_flag (rules row) waiting word (long_met (rules row) found parts.1 (held_at rows pending)).0 (long_met (rules row) found parts.1 (held_at rows pending)).1 in
    after_step (rules row) word (at waiting false rows pending) met.0 met.1

dashed-fault : (row : Row) (waiting : Waiting) (rows : List Kept) (pending : Pending) (x : ℕ) (xs : Text)
    → turn_fault (shape row) [] (at waiting false rows pending) (45 ∷ 45 ∷ x ∷ xs) ≡ dashed_fault row waiting rows pending (45 ∷ 45 ∷ x ∷ xs) (name_and_value (x ∷ xs)) (arg_by_long (rules row) (name_and_value (x ∷ xs)).0)
dashed-fault row idle rows pending x xs = refl
dashed-fault row positional rows pending x xs = refl
dashed-fault row (awaits id) rows pending x xs = refl

dashed-walk : (row : Row) (waiting : Waiting) (rows : List Kept) (pending : Pending) (x : ℕ) (xs : Text)
    → walked (rules row) [] (at waiting false rows pending) (45 ∷ 45 ∷ x ∷ xs) ≡ dashed_walk row waiting rows pending (45 ∷ 45 ∷ x ∷ xs) (name_and_value (x ∷ xs)) (arg_by_long (rules row) (name_and_value (x ∷ xs)).0)
unfolding walked
dashed-walk row idle rows pending x xs = refl
dashed-walk row positional rows pending x xs = refl
dashed-walk row (awaits id) rows pending x xs = refl

-- the same with the name, what follows `=`, and the argument that is found
pub dashed-turn : (row : Row) (waiting : Waiting) (rows : List Kept) (pending : Pending) (x : ℕ) (xs : Text) (parts : Text × Option Text) (found : Option Rule)
    → name_and_value (x ∷ xs) ≡ parts → arg_by_long (rules row) parts.0 ≡ found
    → Turns row (at waiting false rows pending) (45 ∷ 45 ∷ x ∷ xs) (dashed_fault row waiting rows pending (45 ∷ 45 ∷ x ∷ xs) parts found) (dashed_walk row waiting rows pending (45 ∷ 45 ∷ x ∷ xs) parts found)
dashed-turn row waiting rows pending x xs parts found cut is = record {
  faults = dashed-fault row waiting rows pending x xs ∙ ap (λ (p : Text × Option Text). dashed_fault row waiting rows pending (45 ∷ 45 ∷ x ∷ xs) p (arg_by_long (rules row) p.0)) cut ∙ ap (dashed_fault row waiting rows pending (45 ∷ 45 ∷ x ∷ xs) parts) is;
  leaves = dashed-walk row waiting rows pending x xs ∙ ap (λ (p : Text × Option Text). dashed_walk row waiting rows pending (45 ∷ 45 ∷ x ∷ xs) p (arg_by_long (rules row) p.0)) cut ∙ ap (dashed_walk row waiting rows pending (45 ∷ 45 ∷ x ∷ xs) parts) is;
}

pub nothing-more : (kinds : Kinds) → or_else kinds [] ≡ kinds
nothing-more [] = refl
nothing-more (k ∷ kinds) = refl

turned : (row : Row) (walk : Walk) (word : Text) (fault own : Kinds) (after : Walk) → Turns row walk word fault after → fault ≡ own → Turns row walk word own after
turned row walk word fault own after turns is = record { faults = turns.faults ∙ is; leaves = turns.leaves }

-- `--name` of an option with a value: the next word is its value
pub option-turn : (row : Row) (waiting : Waiting) (rows : List Kept) (pending : Pending) (x : ℕ) (xs word : Text) → name_and_value (x ∷ xs) ≡ (word, None) → arg_by_long (rules row) word ≡ Some (option_by true word)
    → Turns row (at waiting false rows pending) (45 ∷ 45 ∷ x ∷ xs) (owed row rows pending) (at (awaits word) false (settle row rows pending) (Some (word, [])))
option-turn row waiting rows pending x xs word cut found =
    turned row _ _ _ _ _ (dashed-turn row waiting rows pending x xs (word, None) (Some (option_by true word)) cut found) (nothing-more (owed row rows pending))

-- `--name=value`
pub joined-turn : (row : Row) (waiting : Waiting) (rows : List Kept) (pending : Pending) (x : ℕ) (xs word value : Text) → name_and_value (x ∷ xs) ≡ (word, Some value) → arg_by_long (rules row) word ≡ Some (option_by true word)
    → Turns row (at waiting false rows pending) (45 ∷ 45 ∷ x ∷ xs) (or_else (owed row rows pending) (use_fault false (option_by true word) (value ∷ []) (settle row rows pending)))
    (at idle false (used (option_by true word) (value ∷ []) (settle row rows pending)) None)
joined-turn row waiting rows pending x xs word value cut found =
    turned row _ _ _ _ _ (dashed-turn row waiting rows pending x xs (word, Some value) (Some (option_by true word)) cut found) (nothing-more _)

-- `--name` of a flag
pub flag-turn : (row : Row) (waiting : Waiting) (rows : List Kept) (pending : Pending) (x : ℕ) (xs word : Text) → name_and_value (x ∷ xs) ≡ (word, None) → arg_by_long (rules row) word ≡ Some (option_by false word)
    → Turns row (at waiting false rows pending) (45 ∷ 45 ∷ x ∷ xs) (or_else (owed row rows pending) (use_fault false (option_by false word) [] (settle row rows pending)))
    (at idle false (used (option_by false word) [] (settle row rows pending)) None)
flag-turn row waiting rows pending x xs word cut found =
    turned row _ _ _ _ _ (dashed-turn row waiting rows pending x xs (word, None) (Some (option_by false word)) cut found) (nothing-more _)

-- the word has a fault
pub record Refused (row : Row) (walk : Walk) (word : Text) : Type 0 where
  pub first : ErrorKind
  pub more : Kinds
  pub is : turn_fault (shape row) [] walk word ≡ first ∷ more

-- no option has the name
pub unknown-refused : (row : Row) (waiting : Waiting) (rows : List Kept) (pending : Pending) (x : ℕ) (xs : Text) (parts : Text × Option Text) → name_and_value (x ∷ xs) ≡ parts → arg_by_long (rules row) parts.0 ≡ None
    → Refused row (at waiting false rows pending) (45 ∷ 45 ∷ x ∷ xs)
unknown-refused row waiting rows pending x xs parts cut none = record { first = kind.UnknownArgument; more = []; is = (dashed-turn row waiting rows pending x xs parts None cut none).faults }

-- a flag has no value
pub valued-refused : (row : Row) (waiting : Waiting) (rows : List Kept) (pending : Pending) (x : ℕ) (xs word value : Text) → name_and_value (x ∷ xs) ≡ (word, Some value) → arg_by_long (rules row) word ≡ Some (option_by false word)
    → Refused row (at waiting false rows pending) (45 ∷ 45 ∷ x ∷ xs)
valued-refused row waiting rows pending x xs word value cut found =
    record { first = kind.TooManyValues; more = []; is = (dashed-turn row waiting rows pending x xs (word, Some value) (Some (option_by false word)) cut found).faults }

short-fault : (row : Row) (rows : List Kept) (pending : Pending) (x c : ℕ) (xs : Text) → slice_get (chars (x ∷ xs)) 0 ≡ Some c → bundle_fault (rules row) false (x ∷ xs) (held_at rows pending) ≡ kind.UnknownArgument ∷ []
unfolding flags_fault
short-fault row rows pending x c xs first = rw (first, by-short row c) refl

first-fault : (kinds later : Kinds) (first : ErrorKind) → kinds ≡ first ∷ [] → or_else kinds later ≡ first ∷ []
first-fault kinds later first is = ap (λ (own : Kinds). or_else own later) is

-- clap finds a name of characters in a word
record IsShort (word flags : Text) : Type 0 where
  delimiter : bytes_eq word (45 ∷ 45 ∷ []) ≡ false
  long : long_of word ≡ None
  short : short_of word ≡ Some flags

short-is : (x : ℕ) (xs : Text) → eqb x 45 ≡ false → IsShort (45 ∷ x ∷ xs) (x ∷ xs)
short-is x xs other = record { delimiter = rw other refl; long = rw other refl; short = rw other refl }

short-turn : (row : Row) (waiting : Waiting) (rows : List Kept) (pending : Pending) (word : Text) (x c : ℕ) (xs : Text) → IsShort word (x ∷ xs) → slice_get (chars (x ∷ xs)) 0 ≡ Some c
    → turn_fault (shape row) [] (at waiting false rows pending) word ≡ kind.UnknownArgument ∷ []
short-turn row idle rows pending word x c xs is first = rw (is.delimiter, is.long, is.short) (first-fault _ _ _ (short-fault row rows pending x c xs first))
short-turn row positional rows pending word x c xs is first = rw (is.delimiter, is.long, is.short) (first-fault _ _ _ (short-fault row rows pending x c xs first))
short-turn row (awaits id) rows pending word x c xs is first = rw (is.delimiter, is.long, is.short) (first-fault _ _ _ (short-fault row rows pending x c xs first))

-- `-x`
pub short-refused : (row : Row) (waiting : Waiting) (rows : List Kept) (pending : Pending) (x c : ℕ) (xs : Text) → eqb x 45 ≡ false → slice_get (chars (x ∷ xs)) 0 ≡ Some c → Refused row (at waiting false rows pending) (45 ∷ x ∷ xs)
short-refused row waiting rows pending x c xs other first =
    record { first = kind.UnknownArgument; more = []; is = short-turn row waiting rows pending (45 ∷ x ∷ xs) x c xs (short-is x xs other) first }
