-- The octets left are elements exactly where all are.
use Rattle.std.proofs.Common.{◌≡◌, length}
use Rattle.ber_layout.specs.element.Pieces.{are_pieces}
use Rattle.ber_layout.specs.element.Pieces.{any_tag}
use Rattle.ber_layout.proofs.element.is_further.Given as goal

abbrev pub invariant-loop-rest : goal.invariant-loop-rest
invariant-loop-rest l = are_pieces any_tag l.rest ≡ are_pieces any_tag l.bytes

abbrev pub decreases-loop-rest : goal.decreases-loop-rest
decreases-loop-rest l = length l.rest
