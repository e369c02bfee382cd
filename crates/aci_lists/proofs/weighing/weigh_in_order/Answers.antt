-- A tuple of a lower precedence ends it, and another is weighed before those after it.
use Rattle.aci_lists.proofs.weighing.WeighLemmas.{stop_at, weigh_next, still_ordered}
use Rattle.aci_lists.proofs.weighing.weigh_in_order.Goals as goal

pub returns-then-tuple-now : goal.returns-then-tuple-now
returns-then-tuple-now c =
    let loop = c.loop-tuple in
    record {
      exact = stop_at c.args.question.now loop.now _ loop.tuple-index c.args.tuples.now c.tuple-item.result c.loop-tuple-test.true c.tuple-item.is c.if-tuple-now.true loop.invariant.ordered loop.invariant.made;
    }

pub loop-tuple-preserved : goal.loop-tuple-preserved
loop-tuple-preserved c =
    let loop = c.loop-tuple in
    record {
      made = weigh_next c.args.question.now loop.now c.weigh-now.result _ loop.tuple-index c.args.tuples.now c.tuple-item.result c.loop-tuple-test.true c.tuple-item.is c.weigh-now.ensures.exact loop.invariant.made;
      ordered = still_ordered loop.tuple-index c.args.tuples.now c.tuple-item.result c.loop-tuple-test.true c.tuple-item.is loop.invariant.ordered;
    }
