-- The walk finds those below the entry whose place is taken.
use Rattle.std.proofs.Common.{◌∙◌}
use Rattle.schema_rules.proofs.points.ChildLemmas.{wrong_above}
use Rattle.schema_rules.proofs.points.stands_wrong_above.Goals as goal

pub returns-in-Some : goal.returns-in-Some
returns-in-Some c = record {
  exact = rw c.in-Some.is
      (c.has_wrong_below.ensures.exact ∙ wrong_above c.args.entry.now c.in-Some.no.0 c.args.tree.now c.has_wrong_below.ensures.tree);
}
