-- What is left of the text and of the lines says what all says; no more lines than octets were passed.
use Rattle.std.proofs.Common.{◌≡◌, ◌+◌, ◌≤◌, length, drop, map}
use Rattle.line_text.specs.Lines.{lines_of}
use Rattle.certify.specs.Lines.{line_of}
use Rattle.certify.specs.Comparing.{compared}
use Rattle.certify.proofs.verifying.compare.Given as goal

abbrev pub invariant-loop-line : goal.invariant-loop-line
invariant-loop-line l = record {
  agreed : compared 1 (lines_of l.text) (map line_of l.lines) ≡ compared l.number (lines_of l.rest) (map line_of (drop l.line-index l.lines));
  counted : l.number + length l.rest ≤ length l.text + 1;
}
