-- One less where one is taken out.
use Rattle.std.proofs.Common.{ℕ, ◌-◌, ap, ◌∙◌}
use Rattle.std.specs.Option.{option_map}
use Rattle.schema_rules.proofs.limits.BesideLemmas.{count_others-one, count_others-none}
use Rattle.schema_rules.proofs.limits.count_beside.Goals as goal

pub returns-in-Some : goal.returns-in-Some
returns-in-Some c = record {
  exact = c.saturating_sub.ensures ∙ ap (λ (count : ℕ). count - 1) c.len.ensures.exact
      ∙ count_others-one (option_map (λ no. no.0) c.args.old) _ c.args.tree.now c.in-Some.ensures.tree c.in-Some.ensures.exact;
}

pub returns-in-None : goal.returns-in-None
returns-in-None c = record {
  exact = c.len-in-None.ensures.exact
      ∙ count_others-none (option_map (λ no. no.0) c.args.old) c.args.tree.now c.in-None.ensures.tree c.in-None.ensures.exact;
}
