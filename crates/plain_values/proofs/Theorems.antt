-- What crates above may cite: laws of a count of faults over several steps, of the lines of a text, of steps and tables
-- that refuse, and of decimal digits.
use Rattle.std.proofs.Common.{ℕ, arith}
use Rattle.plain_values.specs.Counts.{Rose, NeverFalls}
pub use Rattle.plain_values.proofs.lines.LinesLemmas.{lines_of_parts-one, lines-unended, lines-ended}
pub use Rattle.plain_values.proofs.ResultLemmas.{both_given}
pub use Rattle.plain_values.proofs.RefusalLemmas.{none_of, none_from, not_when, when_not}
pub use Rattle.plain_values.proofs.NumeralLemmas.{decimal_numerals}

-- a count that nothing touched never fell
pub NeverFalls-refl : (count : ℕ) → NeverFalls count count
NeverFalls-refl count = record { never_falls = omega arith }

-- it never fell over two steps
pub NeverFalls-trans : {first second third : ℕ} → NeverFalls first second → NeverFalls second third → NeverFalls first third
NeverFalls-trans before after = record { never_falls = omega arith }

-- a count that rose never fell
pub Rose-never_falls : {before after : ℕ} → Rose before after → NeverFalls before after
Rose-never_falls rise = record { never_falls = omega arith }
