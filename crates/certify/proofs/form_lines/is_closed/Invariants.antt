-- The string is closed where what is left of it is.
use Rattle.std.proofs.Common.{◌≡◌, false, drop}
use Rattle.certify.specs.FormLines.{is_closed}
use Rattle.certify.proofs.form_lines.is_closed.Given as goal

abbrev pub invariant-loop-octet : goal.invariant-loop-octet
invariant-loop-octet l = is_closed false l.text ≡ is_closed l.half (drop l.octet-index l.text)
