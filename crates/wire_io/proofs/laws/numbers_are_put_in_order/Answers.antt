use Rattle.wire_io.proofs.rising.OrderLemmas.{IsRising-rising, IsPermutation-rising}
use Rattle.wire_io.proofs.laws.numbers_are_put_in_order.Goals as goal

pub returns : goal.returns
returns c = record { law = λ numbers. (IsRising-rising numbers, IsPermutation-rising numbers) }
