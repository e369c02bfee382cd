-- The structural classes are those that pass the test, value by value.
use Rattle.std.proofs.Common.{◌==◌, sym, ◌∙◌}
use Rattle.schema_rules.proofs.contents.ClassLemmas.{structural_tests}
use Rattle.schema_rules.proofs.structural.lists_structural.Goals as goal

pub returns : goal.returns
returns c = record {
  exact = c.has_structural.ensures.exact ∙ sym (structural_tests (λ other. c.args.class.0 == other) c.args.listed.now);
}
