-- The state decides, of a subentry and of another entry.
use Rattle.std.proofs.Common.{map, sym, ap, ◌∙◌}
use Rattle.std.specs.Prelude.{fold}
use Rattle.acdf_filters.specs.weighing.Weighing.{weighed_for, is_granted}
use Rattle.acdf_filters.specs.declared.standing.Standing.{Standing}
use Rattle.aci_lists.specs.kept.Lists.{tuples_at}
use Rattle.aci_lists.proofs.newcomers.NewcomerLemmas.{decided-above, decided-found}
use Rattle.aci_lists.proofs.newcomers.decide_new_by.Goals as goal

pub returns-then-is_subentry : goal.returns-then-is_subentry
returns-then-is_subentry c = record {
  exact =
      let question = c.args.question.now in
      c.is_granted.ensures.exact
      ∙ ap is_granted c.weigh_above.ensures.exact
      ∙ decided-above question c.args.kept.now c.requires.kept c.entries_form_a_tree.ensures.exact
      (sym c.is_subentry.ensures.exact ∙ c.if-is_subentry.true);
}

pub returns-else-is_subentry : goal.returns-else-is_subentry
returns-else-is_subentry c = record {
  exact =
      let question = c.args.question.now in
      let kept = c.args.kept.now in
      let ids = map (λ no. no.0) c.args.in_force.now in
      c.is_granted-else-is_subentry.ensures.exact
      ∙ ap is_granted (c.weigh_subentries.ensures.exact
      ∙ ap (λ (seen : Standing). fold (weighed_for question) seen (tuples_at kept ids)) c.new.ensures.exact)
      ∙ decided-found question kept ids c.requires.kept (sym c.is_subentry.ensures.exact ∙ c.if-is_subentry.false) c.requires.in_force;
}
