-- The front that lacks one RDN.
use Rattle.std.proofs.Common.{ℕ, ◌-◌, ap, ◌∙◌}
use Rattle.dir_tree.proofs.TreeTheorems.{has_name-found, front_of_superior as front-superior}
use Rattle.change_replay.proofs.adds.has_superior.Goals as goal

pub returns : goal.returns
returns c = record {
  exact = c.is_some.ensures
      ∙ has_name-found (λ no. no.0) c.find_prefix.result _ c.args.tree.now
      (c.find_prefix.ensures.exact
      ∙ front-superior c.args.name.now c.saturating_sub.result c.args.tree.now (c.saturating_sub.ensures ∙ ap (λ (len : ℕ). len - 1) c.len.ensures.exact));
}
