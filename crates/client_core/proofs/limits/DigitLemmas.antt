-- Lemmas on digits, and the number that they write.
use Rattle.std.proofs.Common.{◌≡◌, ℕ, ◌+◌, ◌-◌, ◌*◌, ◌<◌, ◌≤◌, ◌^◌, ap, ◌∙◌, arith, add-one, true, List, length, take, get_or}
use Rattle.std.proofs.Math.Nat.{pow-le-pow_right, pow-suc}
use Rattle.std.proofs.lemmas.Bool.Decides.{nat_tests}
use Rattle.std.proofs.lemmas.Int.Digits.{digits_value_more}
use Rattle.std.specs.Char.{is_ascii_digit, digit_value}
use Rattle.std.specs.List.{AllPass}
use Rattle.std.specs.Str.Parse.{digits_value}

-- a decimal digit is `0` to `9`
pub is_ascii_digit-from : (c : ℕ) → is_ascii_digit c ≡ true → 48 ≤ c
is_ascii_digit-from c digit = grind (arith, nat_tests)

pub is_ascii_digit-to : (c : ℕ) → is_ascii_digit c ≡ true → c ≤ 57
is_ascii_digit-to c digit = grind (arith, nat_tests)

-- its value is how far it stands above `0`
pub digit_value-ascii : (c : ℕ) → 48 ≤ c → c ≤ 57 → digit_value c ≡ c - 48
digit_value-ascii c from to = grind (arith, nat_tests)

-- at most nine digits write less than a thousand million
pub pow_ten-le : (n : ℕ) → n ≤ 9 → 10 ^ n ≤ 1000000000
pow_ten-le n few = pow-le-pow_right {n = 10} (omega arith) few

-- ten times a value below a power of ten, and one digit, stay below the next power
pub below_more_digits : (n value digit : ℕ) → value < 10 ^ n → digit ≤ 9 → value * 10 + digit < 10 ^ (n + 1)
below_more_digits n value digit below nine = rw (add-one, pow-suc) (omega arith)

-- one digit more: the number that the digits up to it write
pub value_more : (digits : List ℕ) (i : ℕ) → i < length digits → AllPass is_ascii_digit digits
    → digits_value 10 (take (i + 1) digits) ≡ digits_value 10 (take i digits) * 10 + (get_or digits i 0 - 48)
value_more digits i within all =
    let digit = all i 0 within in
    digits_value_more 10 digits i within ∙ ap (λ d. digits_value 10 (take i digits) * 10 + d) (digit_value-ascii (get_or digits i 0) (is_ascii_digit-from _ digit) (is_ascii_digit-to _ digit))
