-- The forms of words before `--`, and what clap's lexer makes of each.
use Rattle.std.proofs.Common.{◌≡◌, ◌≢◌, ◌∙◌, ℕ, zero, suc, Bool, true, false, eqb, List, [], ◌∷◌, ◌++◌, Some, None, refl, sym, ap, subst, arith, lit<}
use Rattle.std.specs.Prelude.{slice_get}
use Rattle.std.specs.Str.{IsUtf8, chars}
use Rattle.std.proofs.lemmas.Bool.{eqb-true}
use Rattle.std.proofs.lemmas.Str.{IsUtf8-past_char, encodes-chars, encode_ascii}
use lib.Utf8.{encodes}
use Rattle.clap.specs.Lexer.{name_and_value}
use Rattle.clap.specs.Walk.{Text}
use Rattle.clap.proofs.CutLemmas.{Lacks}
use Rattle.clap.proofs.LexerLemmas.{name_and_value-at, name_and_value-without}
use Rattle.command_words.specs.declared.table.OptionName.{OptionName}
use Rattle.command_words.specs.declared.table.OptionName.TheVariants as options
use Rattle.command_words.specs.Table.{option_word}
use Rattle.command_words.specs.command.Line.{is_operand}
use Rattle.command_words.proofs.command.Steps.{IsBare}

-- an operand, `--`, a word that begins with two dashes and goes on, or one with a dash and a character
pub data Form (word : Text) : Type 0 where
  Plain : IsBare word → is_operand word ≡ true → Form word
  Delimiter : word ≡ 45 ∷ 45 ∷ [] → Form word
  Long : (x : ℕ) (xs : Text) → word ≡ 45 ∷ 45 ∷ x ∷ xs → Form word
  Short : (x c : ℕ) (xs : Text) → word ≡ 45 ∷ x ∷ xs → eqb x 45 ≡ false → slice_get (chars (x ∷ xs)) 0 ≡ Some c → Form word

-- a text that is not empty has a first character
first-char : (x : ℕ) (xs : Text) → IsUtf8 (x ∷ xs) → (c : ℕ) × (slice_get (chars (x ∷ xs)) 0 ≡ Some c)
first-char x xs utf8 = first (chars (x ∷ xs)) refl
  where
    first : (cs : List ℕ) → chars (x ∷ xs) ≡ cs → (c : ℕ) × (slice_get cs 0 ≡ Some c)
    first [] none = absurd (let empty : [] ≡ x ∷ xs = ap encodes (sym none) ∙ encodes-chars (x ∷ xs) utf8 in cc)
    first (c ∷ cs) some = (c, refl)

pub bare-plain : (x : ℕ) (xs : Text) → eqb x 45 ≡ false → IsBare (x ∷ xs)
bare-plain x xs other = record { delimiter = rw other refl; long = rw other refl; short = rw other refl }

bare-empty : IsBare []
bare-empty = record { delimiter = refl; long = refl; short = refl }

bare-dash : IsBare (45 ∷ [])
bare-dash = record { delimiter = refl; long = refl; short = refl }

plain-operand : (x : ℕ) (xs : Text) → eqb x 45 ≡ false → is_operand (x ∷ xs) ≡ true
plain-operand x xs other = rw other refl

-- a word with a dash at its front
dashed-form : (xs : Text) → IsUtf8 xs → Form (45 ∷ xs)
dashed-form [] utf8 = Plain bare-dash refl
dashed-form (y ∷ ys) utf8 = by (eqb y 45) refl
  where
    two : (ys : Text) → Form (45 ∷ 45 ∷ ys)
    two [] = Delimiter refl
    two (z ∷ zs) = Long z zs refl

    by : (b : Bool) → eqb y 45 ≡ b → Form (45 ∷ y ∷ ys)
    by true is = subst (λ (n : ℕ). Form (45 ∷ n ∷ ys)) (sym (eqb-true y 45 is)) (two ys)
    by false is = let first = first-char y ys utf8 in Short y first.0 ys refl is first.1

-- each word has a form
pub form_of : (word : Text) → IsUtf8 word → Form word
form_of [] utf8 = Plain bare-empty refl
form_of (x ∷ xs) utf8 = by (eqb x 45) refl
  where
    by : (b : Bool) → eqb x 45 ≡ b → Form (x ∷ xs)
    by true is =
        let dash = eqb-true x 45 is in
        let front : x ∷ xs ≡ 45 ∷ xs = ap (λ (n : ℕ). n ∷ xs) dash in
        let rest : IsUtf8 xs = IsUtf8-past_char (x ∷ xs) xs 45 utf8 (front ∙ ap (λ (own : Text). own ++ xs) (sym (encode_ascii 45 (lit< tt)))) in
        subst Form (sym front) (dashed-form xs rest)
    by false is = Plain (bare-plain x xs is) (plain-operand x xs is)

-- an operand has no name for clap
pub operand-bare : (word : Text) → is_operand word ≡ true → IsBare word
operand-bare [] is = bare-empty
operand-bare (x ∷ xs) is = by (eqb x 45) refl
  where
    only : (xs : Text) → is_operand (45 ∷ xs) ≡ true → IsBare (45 ∷ xs)
    only [] plain = bare-dash
    only (y ∷ ys) plain = absurd (cc)

    by : (b : Bool) → eqb x 45 ≡ b → IsBare (x ∷ xs)
    by true dash = let front : x ∷ xs ≡ 45 ∷ xs = ap (λ (n : ℕ). n ∷ xs) (eqb-true x 45 dash) in subst IsBare (sym front) (only xs (sym (ap is_operand front) ∙ is))
    by false other = bare-plain x xs other

-- what follows two dashes is a name, or a name, `=` and a value
pub data Cut (body : Text) : Type 0 where
  Whole : name_and_value body ≡ (body, None) → Cut body
  Parts : (name value : Text) → body ≡ name ++ 61 ∷ value → name_and_value body ≡ (name, Some value) → Cut body

differs : (x : ℕ) → eqb x 61 ≡ false → x ≢ 61
differs x is same = absurd (let both : eqb 61 61 ≡ false = sym (ap (λ (n : ℕ). eqb n 61) same) ∙ is in cc)

lacks-more : (x : ℕ) (xs : Text) → x ≢ 61 → Lacks 61 xs → Lacks 61 (x ∷ xs)
lacks-more x xs other lacks zero below is = other is
lacks-more x xs other lacks (suc i) below is = lacks i (omega arith) is

data Equals (body : Text) : Type 0 where
  Lacking : Lacks 61 body → Equals body
  First : (name value : Text) → body ≡ name ++ 61 ∷ value → Lacks 61 name → Equals body

equals_in : (body : Text) → Equals body
equals_in [] = Lacking (λ i below is. absurd (omega arith))
equals_in (x ∷ xs) = by (eqb x 61) refl (equals_in xs)
  where
    by : (b : Bool) → eqb x 61 ≡ b → Equals xs → Equals (x ∷ xs)
    by true is later = First [] xs (ap (λ (n : ℕ). n ∷ xs) (eqb-true x 61 is)) (λ i below same. absurd (omega arith))
    by false is (Lacking lacks) = Lacking (lacks-more x xs (differs x is) lacks)
    by false is (First name value cut lacks) = First (x ∷ name) value (ap (λ (later : Text). x ∷ later) cut) (lacks-more x name (differs x is) lacks)

pub cut_of : (body : Text) → Cut body
cut_of body = by (equals_in body)
  where
    by : Equals body → Cut body
    by (Lacking lacks) = Whole (name_and_value-without body lacks)
    by (First name value cut lacks) = Parts name value cut (ap name_and_value cut ∙ name_and_value-at name value lacks)

-- the names of options have no `=`
pub option_word-whole : (name : OptionName) → name_and_value (option_word name) ≡ (option_word name, None)
option_word-whole options.Sessions = refl
option_word-whole options.Turns = refl
option_word-whole options.Queues = refl
option_word-whole options.Idle = refl
option_word-whole options.Limit = refl
option_word-whole options.Dump = refl
option_word-whole options.Script = refl
option_word-whole options.Changes = refl
option_word-whole options.Why = refl

pub option_word-parts : (name : OptionName) (value : Text) → name_and_value (option_word name ++ 61 ∷ value) ≡ (option_word name, Some value)
option_word-parts options.Sessions value = refl
option_word-parts options.Turns value = refl
option_word-parts options.Queues value = refl
option_word-parts options.Idle value = refl
option_word-parts options.Limit value = refl
option_word-parts options.Dump value = refl
option_word-parts options.Script value = refl
option_word-parts options.Changes value = refl
option_word-parts options.Why value = refl

-- and a first character
pub record Begins (text : Text) : Type 0 where
  pub first : ℕ
  pub more : Text
  pub is : text ≡ first ∷ more

pub option_word-begins : (name : OptionName) → Begins (option_word name)
option_word-begins options.Sessions = record { first = _; more = _; is = refl }
option_word-begins options.Turns = record { first = _; more = _; is = refl }
option_word-begins options.Queues = record { first = _; more = _; is = refl }
option_word-begins options.Idle = record { first = _; more = _; is = refl }
option_word-begins options.Limit = record { first = _; more = _; is = refl }
option_word-begins options.Dump = record { first = _; more = _; is = refl }
option_word-begins options.Script = record { first = _; more = _; is = refl }
option_word-begins options.Changes = record { first = _; more = _; is = refl }
option_word-begins options.Why = record { first = _; more = _; is = refl }
