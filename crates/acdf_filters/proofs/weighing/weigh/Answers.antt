-- A tuple of a lower precedence changes nothing, and the tests of others stand in any order.
use Rattle.std.proofs.Common.{sym, ◌∙◌}
use Rattle.aci_item.specs.item.Views.{tuple_of}
use Rattle.acdf_filters.specs.weighing.Weighing.{asked_of, asked_ranks}
use Rattle.acdf_filters.proofs.weighing.WeighLemmas.{weighed-below, weighed-tests}
use Rattle.acdf_filters.proofs.weighing.weigh.Goals as goal

pub returns-then-tuple-seen : goal.returns-then-tuple-seen
returns-then-tuple-seen c = record {
  exact =
      let question = c.args.question.now in
      let tuple = tuple_of c.args.tuple.now in
      sym (weighed-below (asked_of question) c.args.seen tuple (asked_ranks question tuple) c.if-tuple-seen.true);
}

pub returns-else-tuple-seen : goal.returns-else-tuple-seen
returns-else-tuple-seen c = record {
  exact =
      let question = c.args.question.now in
      let tuple = tuple_of c.args.tuple.now in
      c.weigh_permission.ensures.exact ∙ sym (weighed-tests (asked_of question) c.args.seen tuple (asked_ranks question tuple));
}
