-- Numbers in decimal are read as they were.
use Rattle.std.proofs.Common.{◌≡◌, ℕ, ◌<◌, ◌≤◌, ◌^◌, Bool, true, false, List, [], ◌∷◌, length, get_or, Some, None, refl, ap, ◌∙◌, arith}
use Rattle.std.specs.Prelude.{◌==◌, nat_le, decimal, if◌then◌else◌}
use Rattle.std.proofs.lemmas.Bool.Decides.{nat_tests}
use Rattle.std.proofs.lemmas.Fmt.{digits_decimal, digits_value-decimal, decimal_digit, decimal_nonempty, first_decimal}
use Rattle.std.proofs.lemmas.Bool.{and_parts, and_from}
use Rattle.std.specs.Char.{is_ascii_digit, is_ascii_alphanumeric}
use Rattle.std.specs.List.{list_all}
use Rattle.std.specs.Str.Parse.{digits_value}
use Rattle.gser_tree.specs.declared.marks.Class.TheVariants.{Letter}
use Rattle.gser_tree.specs.Lexemes.{class_of, is_letter, is_word}
use Rattle.gser_tree.specs.looking.Looking.{word_in}
use Rattle.gser_tree.specs.Reading.{is_number, at_most, number, part, expect}
use Rattle.gser_tree.specs.Writing.{print_number}
use Rattle.gser_tree.proofs.looking.ClassLemmas.{are_letters}
use Rattle.gser_tree.proofs.writing.PrintsLemmas.{word_is_written}
use Rattle.gser_tree.proofs.reading.ReadsLemmas.{IsRead, Prints}
use Rattle.gser_tree.proofs.reading.OnlyLemmas.{Only, gives_both, gives_choice, gives_expected, gives_part, gives_nothing}
use Rattle.plain_values.proofs.Theorems.{decimal_numerals}

digit_letter : (x : ℕ) → is_ascii_digit x ≡ true → class_of x ≡ Letter
unfolding class_of
digit_letter x h = grind (arith, nat_tests)

-- octets of words
pub is_letter-digit : (x : ℕ) → is_ascii_digit x ≡ true → is_letter (class_of x) ≡ true
is_letter-digit x h = ap is_letter (digit_letter x h)

alphanumeric_letter : (x : ℕ) → is_ascii_alphanumeric x ≡ true → class_of x ≡ Letter
unfolding class_of
alphanumeric_letter x h = grind (arith, nat_tests)

pub is_letter-alphanumeric : (x : ℕ) → is_ascii_alphanumeric x ≡ true → is_letter (class_of x) ≡ true
is_letter-alphanumeric x h = ap is_letter (alphanumeric_letter x h)

pub is_letter-hyphen : is_letter (class_of 45) ≡ true
unfolding class_of
is_letter-hyphen = refl

pub is_letter-dot : is_letter (class_of 46) ≡ true
unfolding class_of
is_letter-dot = refl

digits_letters : (text : List ℕ) → list_all is_ascii_digit text ≡ true → are_letters text ≡ true
digits_letters [] h = refl
digits_letters (x ∷ text) h =
    let both = and_parts (is_ascii_digit x) (list_all is_ascii_digit text) h in
    and_from (is_letter (class_of x)) (are_letters text) (ap is_letter (digit_letter x both.0)) (digits_letters text both.1)

-- digits are a word
pub is_word-digits : (text : List ℕ) → 0 < length text → list_all is_ascii_digit text ≡ true → is_word text ≡ true
is_word-digits [] some h = absurd (omega arith)
is_word-digits (x ∷ text) some h = digits_letters (x ∷ text) h

-- digits of which the first is not 0
is_number-from : (text : List ℕ) → 48 < get_or text 0 0 → list_all is_ascii_digit text ≡ true → is_number text ≡ true
is_number-from [] first h = absurd (omega arith)
is_number-from (x ∷ text) first h =
    let both = and_parts (is_ascii_digit x) (list_all is_ascii_digit text) h in
    let other : (x == 48) ≡ false = grind (arith, nat_tests) in
    rw (both.0, both.1, other) refl

-- what is written of a number is one
pub is_number-decimal : (value : ℕ) → value < 2 ^ 64 → is_number (decimal value) ≡ true
is_number-decimal value fits = inner (value == 0) refl
  where
    inner : (b : Bool) → (value == 0) ≡ b → is_number (decimal value) ≡ true
    inner true is = let zero : value ≡ 0 = grind (arith, nat_tests) in ap (λ v. is_number (decimal v)) zero ∙ ap is_number (decimal_digit 0 (omega arith))
    inner false is = let some : 0 < value = grind (arith, nat_tests) in is_number-from (decimal value) (first_decimal value some fits) (digits_decimal decimal_numerals value fits)

pub is_word-decimal : (value : ℕ) → value < 2 ^ 64 → is_word (decimal value) ≡ true
is_word-decimal value fits = is_word-digits (decimal value) (decimal_nonempty value fits) (digits_decimal decimal_numerals value fits)

-- a number of at most so much is read as it was
pub number_prints : (deep most value : ℕ) → value ≤ most → value < 2 ^ 64 → Prints deep (number most) (print_number value) value
unfolding number
number_prints deep most value within fits =
    word_is_written deep (IsRead (number most) value) (decimal value) (is_word-decimal value fits) (λ place bad. rw (is_number-decimal value fits, means) refl)
  where
    means : at_most most (decimal value) ≡ Some value
    means =
        let same : digits_value 10 (decimal value) ≡ value = digits_value-decimal decimal_numerals value fits in
        let test : nat_le value most ≡ true = grind (arith, nat_tests) in
        ap (λ v. if nat_le v most then Some v else None) same ∙ rw test refl

-- what is read as a number is at most so much
at_most-Some : (most : ℕ) (digits : List ℕ) (value : ℕ) → at_most most digits ≡ Some value → value ≤ most
at_most-Some most digits value h = inner (digits_value 10 digits) h
  where
    inner : (n : ℕ) → (if nat_le n most then Some n else None) ≡ Some value → value ≤ most
    inner n h = tests (nat_le n most) refl h
      where
        tests : (b : Bool) → nat_le n most ≡ b → (if b then Some n else None) ≡ Some value → value ≤ most
        tests true is h = let same : n ≡ value = cc in let within : n ≤ most = grind (arith, nat_tests) in omega (arith, same, within)
        tests false is h = cc

pub number_is_at_most : (most : ℕ) → Only (λ value. value ≤ most) (number most)
unfolding number
number_is_at_most most shape =
    gives_both (λ _. Unit {0}) (λ value. value ≤ most) (expect (word_in shape))
    (λ word. if is_number word.text then part word.place 0 (at_most most word.text) else λ bad. None)
    (gives_expected (λ _. Unit {0}) (word_in shape) (λ value is. tt))
    (λ word. gives_choice (λ value. Unit {0} → value ≤ most) (is_number word.text) (part word.place 0 (at_most most word.text)) (λ bad. None)
    (λ _. gives_part (λ value. Unit {0} → value ≤ most) word.place 0 (at_most most word.text) (λ value is _. at_most-Some most word.text value is))
    (λ _. gives_nothing (λ value. Unit {0} → value ≤ most)))
