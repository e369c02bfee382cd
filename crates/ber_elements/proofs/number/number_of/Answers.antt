-- The number so far has room for one octet more.
use Rattle.std.proofs.Common.{arith}
use Rattle.ber_elements.proofs.number.NumberLemmas.{room_for_one, half_of}
use Rattle.ber_elements.proofs.number.number_of.Goals as goal

pub overflow_mul-number : goal.overflow_mul-number
overflow_mul-number c = omega (arith, room_for_one c.args.first c.loop-octet.octet-index c.loop-octet.number (omega arith) (omega arith) c.loop-octet.invariant.bound)

pub returns-clause-half : goal.returns-clause-half
returns-clause-half c small = half_of c.args.first c.loop-octet.octet-index c.loop-octet.number (omega arith) c.loop-octet.invariant.bound small
