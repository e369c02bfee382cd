-- What was read back, with what is left to read; what is left gets shorter.
use Rattle.std.proofs.Common.{◌≡◌, ◌++◌, length}
use Rattle.std.specs.Prelude.{option_map}
use Rattle.line_text.specs.Escapes.{read_back}
use Rattle.line_text.proofs.reading.read_back.Given as goal

abbrev pub invariant-octets : goal.invariant-octets
invariant-octets l = read_back l.text ≡ option_map (λ rest. l.octets.items ++ rest) (read_back l.rest)

abbrev pub decreases-octets : goal.decreases-octets
decreases-octets l = length l.rest
