-- The entry of the number is the superior, where that is another than the entry whose place is taken.
use Rattle.std.proofs.Common.{ap, ◌∙◌}
use Rattle.std.specs.Option.{option_map}
use Rattle.aci_item.specs.Rules.{stands_wrong}
use Rattle.schema_rules.proofs.limits.BesideLemmas.{superior_beside}
use Rattle.schema_rules.proofs.points.is_wrong_there.Goals as goal

pub returns : goal.returns
returns c = record {
  exact = c.stands_wrong.ensures.exact
      ∙ ap (λ found. stands_wrong found c.args.entry.now)
      (c.entry_beside.ensures.exact
      ∙ superior_beside (option_map (λ no. no.0) c.args.old) _ c.args.entry.now c.args.tree.now c.entry_beside.ensures.tree c.requires);
}
