-- Numbers of at most so much, and what the library's `parse` gives of them.
use Rattle.std.proofs.Common.{◌≡◌, ℕ, ◌<◌, ◌≤◌, ◌^◌, true, false, ◌&&◌, ◌||◌, List, [], ◌∷◌, length, Some, None, Err, refl, arith}
use Rattle.std.specs.Prelude.{◌==◌, not, nat_le, if◌then◌else◌}
use Rattle.std.proofs.lemmas.Bool.Decides.{nat_tests}
use Rattle.std.proofs.lemmas.Str.Parse.{parse_digits}
use Rattle.std.proofs.lemmas.Bool.{and_parts, and_from}
use Rattle.std.specs.Char.{is_ascii_digit}
use Rattle.std.specs.List.{list_all}
use Rattle.std.specs.Str.Parse.{digits_value, ParsesUnsigned}
use Rattle.gser_tree.specs.Reading.{is_number, at_most}
use Rattle.plain_values.proofs.Theorems.{decimal_numerals}

-- the octets of a number are digits
pub number_digits : (text : List ℕ) → is_number text ≡ true → list_all is_ascii_digit text ≡ true
number_digits [] h = cc
number_digits (first ∷ rest) h =
    let both = and_parts (is_ascii_digit first) (list_all is_ascii_digit rest && (not (first == 48) || length rest == 0)) h in
    let more = and_parts (list_all is_ascii_digit rest) (not (first == 48) || length rest == 0) both.1 in
    and_from (is_ascii_digit first) (list_all is_ascii_digit rest) both.0 more.0

some_digits : (text : List ℕ) → is_number text ≡ true → 1 ≤ length text
some_digits [] h = cc
some_digits (first ∷ rest) h = omega arith

-- a number that `parse` refuses is no number of at most so much
pub too_large : {E : Type 0} (most : ℕ) (text : List ℕ) (fault : E) → most < 2 ^ 32 → is_number text ≡ true
    → ParsesUnsigned 32 10 text (Err fault) → at_most most text ≡ None
too_large {E} most text fault fits is parses =
    let gives = parse_digits decimal_numerals {E = E} 32 text (Err fault) parses (number_digits text is) in
    elim (nat_le (digits_value 10 text) most) as (λ b. nat_le (digits_value 10 text) most ≡ b
    → (if b then Some (digits_value 10 text) else None) ≡ None) [
      | false ↦ λ e. refl
      | true ↦ λ e. absurd (gives (some_digits text is, below (digits_value 10 text) e))
    ] refl
  where
    below : (value : ℕ) → nat_le value most ≡ true → value < 2 ^ 32
    below value e = let le : value ≤ most = grind (arith, nat_tests) in omega arith
