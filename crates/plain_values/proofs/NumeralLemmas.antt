-- Decimal digits as std's `parse` takes them.
use Rattle.std.proofs.Common.{◌≡◌, ℕ, true, List, rules}
use Rattle.std.specs.Char.{is_ascii_digit}
use Rattle.std.specs.List.{list_all}
use Rattle.std.specs.Str.Parse.{digits_value}
use Rattle.std.proofs.lemmas.Str.Parse.{IsNumeralModel, numerals_by_value}

-- texts of digits are the numerals, and what they are worth is their value
pub decimal_numerals : IsNumeralModel (λ ds. list_all is_ascii_digit ds ≡ true) (digits_value 10)
decimal_numerals = numerals_by_value _ (search rules)
