-- The lines of the certificate, written.
use Rattle.std.proofs.Common.{◌++◌, List, ℕ, map, ap, ◌∙◌}
use Rattle.std.specs.Prelude.{flat_map}
use Rattle.certify.specs.declared.lines.Line as code
use Rattle.certify.specs.Lines.{Line, line_of, line_text}
use Rattle.certify.proofs.proving.question_text.Goals as goal

pub returns : goal.returns
returns c = record {
  ok = c.in_ok-put_lines.ensures.ok
      ∙ ap (λ (text : List ℕ). text ++ flat_map line_text (map line_of c.deref.result.now)) c.new-text.ensures.items
      ∙ ap (λ (lines : List code.Line). flat_map line_text (map line_of lines)) c.deref.ensures.value
      ∙ ap (λ (lines : List Line). flat_map line_text lines) c.in_ok-certified.ensures.ok.lines;
}
