-- The front that lacks one RDN.
use Rattle.std.proofs.Common.{ℕ, ◌-◌, ap, ◌∙◌}
use Rattle.schema_rules.proofs.points.number_above.Goals as goal
use Rattle.dir_tree.proofs.TreeTheorems.{front_of_superior}

pub returns : goal.returns
returns c = record {
  exact = c.find_prefix.ensures.exact
      ∙ front_of_superior _ _ _ (c.saturating_sub.ensures ∙ ap (λ (len : ℕ). len - 1) c.len.ensures.exact);
}
