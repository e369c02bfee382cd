-- The state of what is kept decides.
use Rattle.std.proofs.Common.{List, sym, ap, ◌∙◌}
use Rattle.std.specs.Prelude.{fold}
use Rattle.std.proofs.lemmas.List.Sums.{fold-append}
use Rattle.acdf_filters.specs.Standing.{initial}
use Rattle.acdf_filters.specs.aci_item.AciTuples.{AciTuple}
use Rattle.acdf_filters.specs.weighing.Weighing.{weighed_for, is_granted}
use Rattle.acdf_filters.specs.declared.standing.Standing.{Standing}
use Rattle.aci_lists.specs.kept.Lists.{lists_at, tuples_inherited}
use Rattle.aci_lists.proofs.kept.KeptLemmas.{decided-kept}
use Rattle.aci_lists.proofs.decision.decide_by.Goals as goal

pub returns : goal.returns
returns c = record {
  exact =
      let question = c.args.question.now in
      let kept = c.args.kept.now in
      let others = tuples_inherited kept c.args.number.0 question.entry.now question.tree.now in
      c.is_granted.ensures.exact
      ∙ ap is_granted (c.weigh_in_order.ensures.exact
      ∙ ap (λ (tuples : List AciTuple). fold (weighed_for question) c.weigh_inherited-seen.result tuples) c.own_at.ensures.exact
      ∙ ap (λ (seen : Standing). fold (weighed_for question) seen (lists_at kept c.args.number.0).own) c.weigh_inherited-seen.ensures.exact
      ∙ sym (fold-append (weighed_for question) initial others (lists_at kept c.args.number.0).own))
      ∙ decided-kept question kept c.args.number.0 c.requires.kept c.entries_form_a_tree.ensures.exact c.requires.entry;
}
