-- One less where one is taken out.
use Rattle.std.proofs.Common.{ℕ, ◌-◌, sym, ap, ◌∙◌}
use Rattle.std.specs.Option.{option_map}
use Rattle.schema_rules.proofs.limits.BesideLemmas.{count_subentries-one, count_subentries-none}
use Rattle.schema_rules.proofs.limits.subentries_beside.Goals as goal

pub returns-then-takes_subentry : goal.returns-then-takes_subentry
returns-then-takes_subentry c = record {
  exact = c.saturating_sub.ensures ∙ ap (λ (count : ℕ). count - 1) c.count_subentries.ensures.exact
      ∙ count_subentries-one (option_map (λ no. no.0) c.args.old) c.args.tree.now c.takes_subentry.ensures.tree
      (sym c.takes_subentry.ensures.exact ∙ c.if-takes_subentry.true);
}

pub returns-else-takes_subentry : goal.returns-else-takes_subentry
returns-else-takes_subentry c = record {
  exact = c.count_subentries-else-takes_subentry.ensures.exact
      ∙ count_subentries-none (option_map (λ no. no.0) c.args.old) c.args.tree.now c.takes_subentry.ensures.tree
      (sym c.takes_subentry.ensures.exact ∙ c.if-takes_subentry.false);
}
