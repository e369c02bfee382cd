-- The classes count by the most specific one in which the requester is.
use Rattle.std.proofs.Common.{ap, sym, ◌∙◌}
use Rattle.aci_item.specs.item.Views.{tuple_of}
use Rattle.acdf_filters.specs.weighing.Weighing.{asked_of, asked_ranks, by_class}
use Rattle.acdf_filters.proofs.weighing.WeighLemmas.{with_class_of-least}
use Rattle.acdf_filters.proofs.weighing.weigh_class.Goals as goal

pub returns : goal.returns
returns c = record {
  exact =
      let question = c.args.question.now in
      let tuple = tuple_of c.args.tuple.now in
      c.with_class.ensures.exact
      ∙ ap (by_class (asked_of question) c.args.seen tuple) (rw c.deref.ensures at c.class_of.ensures.exact)
      ∙ sym (with_class_of-least (asked_of question) c.args.seen tuple (asked_ranks question tuple));
}
