-- The second text has ended.
use Rattle.std.proofs.Common.{◌≤◌, length, arith}
use Rattle.std.proofs.lemmas.Bool.Decides.{nat_tests}
use Rattle.hush_laws.proofs.difference.FrontLemmas.{common_front-ended}
use Rattle.hush_laws.proofs.difference.common_front.Goals as goal

pub returns-else-count-other : goal.returns-else-count-other
returns-else-count-other c =
    let past : length c.args.other.now ≤ c.loop-count.count = grind (arith, nat_tests) in
    let none = common_front-ended c.args.one.now c.args.other.now c.loop-count.count past in
    record { exact = omega (arith, c.loop-count.invariant.exact, none) }
