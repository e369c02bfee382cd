-- The number so far has room for one octet more.
use Rattle.std.proofs.Common.{arith}
use Rattle.ber_elements.proofs.number.NumberLemmas.{room_for_one, half_of, bound_next, turned_more}
use Rattle.ber_elements.proofs.number.turned_number_of.Goals as goal

pub overflow_mul-number : goal.overflow_mul-number
overflow_mul-number c = omega (arith, room_for_one c.args.first c.loop-octet.octet-index c.loop-octet.number (omega arith) (omega arith) c.loop-octet.invariant.bound)

pub overflow_add-number : goal.overflow_add-number
overflow_add-number c = omega (arith, room_for_one c.args.first c.loop-octet.octet-index c.loop-octet.number (omega arith) (omega arith) c.loop-octet.invariant.bound)

pub loop-octet-preserved : goal.loop-octet-preserved
loop-octet-preserved c = record {
  value = turned_more c.loop-octet.number c.from.result c.args.first c.loop-octet.octet-index c.args.octets.now c.loop-octet-test.true c.from.ensures c.loop-octet.invariant.value;
  bound = bound_next c.args.first c.loop-octet.octet-index c.loop-octet.number c.from.result c.loop-octet.invariant.bound (omega arith);
}

pub returns-clause-half : goal.returns-clause-half
returns-clause-half c small = half_of c.args.first c.loop-octet.octet-index c.loop-octet.number (omega arith) c.loop-octet.invariant.bound small
