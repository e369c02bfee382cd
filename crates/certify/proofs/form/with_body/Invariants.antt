-- What is left says what the whole says; no more lines than octets were passed, and what is left gets shorter.
use Rattle.std.proofs.Common.{◌≡◌, ◌+◌, ◌≤◌, length}
use Rattle.line_text.specs.Lines.{lines_of, rest_of}
use Rattle.explanation.specs.Questions.{Question}
use Rattle.certify.specs.declared.form_lines.Part.TheVariants.{Scopes}
use Rattle.certify.specs.Form.{body_from}
use Rattle.certify.proofs.form.with_body.Given as goal

abbrev pub invariant-lines : goal.invariant-lines
invariant-lines l = record {
  stated : (found : Question) → body_from 5 Scopes (rest_of l.text) found (lines_of l.text) ≡ body_from l.number l.part (rest_of l.rest) found (lines_of l.rest);
  counted : l.number + length l.rest ≤ length l.text + 5;
}

abbrev pub decreases-lines : goal.decreases-lines
decreases-lines l = length l.rest
