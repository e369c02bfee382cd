-- The structural classes are those that pass the test, value by value.
use Rattle.std.proofs.Common.{◌∙◌}
use Rattle.aci_item.specs.Listed.{is_among}
use Rattle.schema_rules.specs.Classes.{structural_in}
use Rattle.schema_rules.proofs.contents.ClassLemmas.{all_structural}
use Rattle.schema_rules.proofs.structural.are_among.Goals as goal

pub returns : goal.returns
returns c = record {
  exact = c.all_kept.ensures.exact ∙ all_structural (λ class. is_among class (structural_in c.args.all.now)) c.args.some.now;
}
