-- The type at the place finds the values.
use Rattle.std.proofs.Common.{◌∙◌}
use Rattle.schema_rules.proofs.contents.EntryLemmas.{values_there, none_there}
use Rattle.schema_rules.proofs.values.values_at.Goals as goal

pub returns-in-Some : goal.returns-in-Some
returns-in-Some c = record {
  exact = c.values.ensures.exact ∙ values_there _ c.args.index c.in-Some.kind.0 c.is_good.ensures.good c.in-Some.ensures.exact;
}

pub returns-in-None : goal.returns-in-None
returns-in-None c = record { exact = none_there _ c.args.index c.in-None.ensures.exact }
