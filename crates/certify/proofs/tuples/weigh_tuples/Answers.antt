-- One tuple more.
use Rattle.std.proofs.Common.{◌≡◌, ◌+◌, ◌∷◌, drop, arith}
use Rattle.std.proofs.lemmas.Grind.{common_steps}
use Rattle.certify.proofs.tuples.StepLemmas.{one_weighed}
use Rattle.certify.proofs.tuples.weigh_tuples.Goals as goal

pub loop-tuple-preserved : goal.loop-tuple-preserved
loop-tuple-preserved c =
    let index = c.loop-tuple.tuple-index in
    let rest = drop (index + 1) c.args.tuples.now in
    let next : drop index c.args.tuples.now ≡ c.tuple-item.result ∷ rest = grind (arith, common_steps) in
    one_weighed c.args.question.now c.tuple-item.result rest (drop index c.args.tuples.now) next
    c.loop-tuple.seen c.weigh-seen.result _ c.weigh-seen.ensures.exact c.loop-tuple.invariant
