-- Lemmas on the number of a connection as std reads it.
use Rattle.std.proofs.Common.{◌≡◌, ℕ, ◌<◌, ◌^◌, Bool, true, false, List, [], ◌∷◌, length, Some, Result, sym, ap, ◌∙◌, subst, arith, rules}
use Rattle.std.proofs.lemmas.Str.Parse.{IsNumeralModel, numerals_by_value, parse_gives}
use Rattle.std.proofs.lemmas.List.Sums.{list_all-from_AllPass}
use Rattle.std.specs.Char.{is_ascii_digit}
use Rattle.std.specs.List.{list_all}
use Rattle.std.specs.Result.{result_ok}
use Rattle.std.specs.Str.Parse.{digits_value, ParsesUnsigned}
use Rattle.command_files.specs.script_text.LineText.{IsNumber}

decimals : IsNumeralModel (λ digits. list_all is_ascii_digit digits ≡ true) (digits_value 10)
decimals = numerals_by_value _ (search rules)

-- a number above zero has a digit
some_digit : (word : List ℕ) (number : ℕ) → IsNumber word number → 0 < length word
some_digit [] number is = absurd (omega (arith, is.value, is.above_zero))
some_digit (digit ∷ digits) number is = omega arith

all_digits : (word : List ℕ) (number : ℕ) → IsNumber word number → list_all is_ascii_digit word ≡ true
all_digits word number is = list_all-from_AllPass is_ascii_digit word is.digits_alone

-- what writes the number is read as it
pub IsNumber-read : {E : Type 0} (word : List ℕ) (number : ℕ) (read : Result ℕ E) → ParsesUnsigned 32 10 word read → IsNumber word number → result_ok read ≡ Some number
IsNumber-read word number read parses is =
    let gives = parse_gives decimals 32 word read parses (all_digits word number is) (some_digit word number is) (subst (λ (n : ℕ). n < 2 ^ 32) is.value is.fits) in
    ap result_ok gives ∙ ap Some (sym is.value)

-- a word that is too long, or has another octet, writes none
pub too_long : (word : List ℕ) (number : ℕ) → 10 < length word → IsNumber word number → ⊥
too_long word number long is = omega (arith, is.at_most_ten)

pub other_octet : (word : List ℕ) (number : ℕ) (all : Bool) → all ≡ list_all is_ascii_digit word → all ≡ false → IsNumber word number → ⊥
other_octet word number all digits none is = let every = all_digits word number is in cc (every, digits, none)
