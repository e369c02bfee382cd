-- What is written, and what is left, are the text; what was there stays; what is left gets shorter.
use Rattle.std.proofs.Common.{◌≡◌, ◌++◌, length}
use Rattle.std.specs.Prelude.{string_bytes}
use denote.Shadow.{shadow}
use denote.Text.{Utf8}
use Rattle.gser_tree.specs.Strings.{doubled}
use Rattle.gser_tree.specs.Strings.{IsKept}
use Rattle.gser_tree.proofs.strings.put_doubled.Given as goal

abbrev pub invariant-marks : goal.invariant-marks
invariant-marks l = (string_bytes l.out ++ doubled l.rest ≡ string_bytes l.initial.out ++ doubled l.text) × IsKept (string_bytes l.initial.out) (string_bytes l.out) × shadow (Utf8 l.rest)

abbrev pub decreases-marks : goal.decreases-marks
decreases-marks l = length l.rest
