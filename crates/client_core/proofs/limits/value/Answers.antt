use Rattle.std.proofs.Common.{◌≤◌, arith, get_or}
use Rattle.client_core.proofs.limits.DigitLemmas.{is_ascii_digit-to, pow_ten-le, below_more_digits, value_more}
use Rattle.client_core.proofs.limits.value.Goals as goal

-- fewer than ten digits came before: their value is below a thousand million
pub overflow_mul-value : goal.overflow_mul-value
overflow_mul-value c =
    let few : c.loop-digit.digit-index ≤ 9 = omega arith in
    omega (arith, pow_ten-le c.loop-digit.digit-index few)

pub overflow_add-value : goal.overflow_add-value
overflow_add-value c =
    let few : c.loop-digit.digit-index ≤ 9 = omega arith in
    omega (arith, pow_ten-le c.loop-digit.digit-index few)

-- the digit is the last of the value, and is at most nine
pub loop-digit-preserved : goal.loop-digit-preserved
loop-digit-preserved c =
    let more = value_more c.args.digits.now c.loop-digit.digit-index c.loop-digit-test.true c.requires.digits in
    let nine = is_ascii_digit-to (get_or c.args.digits.now c.loop-digit.digit-index 0) (c.requires.digits c.loop-digit.digit-index 0 c.loop-digit-test.true) in
    record {
      reads = cc more;
      below = below_more_digits c.loop-digit.digit-index c.loop-digit.value c.from.result c.loop-digit.invariant.below (omega arith);
    }
