-- What is no number is none.
use Rattle.std.proofs.Common.{◌≡◌, Some, None, sym, ◌∙◌}
use Rattle.audit_program.proofs.words.NumberLemmas.{IsNumber-read, too_long, other_octet}
use Rattle.audit_program.proofs.words.connection_number.Goals as goal
use Rattle.audit_program.proofs.words.connection_number.Goals.{then-word-gt10-via-then-word-gt10, then-word-gt10-via-else-word-gt10+then-not-all_digits}

-- the word is too long, or isn't of digits alone
pub returns-then-word-gt10-clause-only : goal.returns-then-word-gt10-clause-only
returns-then-word-gt10-clause-only c = λ number is. elim c.then-word-gt10.branch [
  | then-word-gt10-via-then-word-gt10 w ↦ absurd (too_long _ number w.if-word-gt10.true is)
  | then-word-gt10-via-else-word-gt10+then-not-all_digits w ↦ absurd (other_octet _ number _ w.all_digits.ensures w.if-not-all_digits.true is)
]

-- it is read as no number of 32 bits
pub returns-in_err-number-clause-only : goal.returns-in_err-number-clause-only
returns-in_err-number-clause-only c = λ number is.
    let read = IsNumber-read _ number c.parse.result c.parse.ensures.value.0 is in
    let clash : None ≡ Some number = sym c.in_err-number.was ∙ c.ok.ensures.value ∙ read in
    absurd (cc clash)
