-- The structural classes are those that pass the test, value by value.
use Rattle.std.proofs.Common.{sym}
use Rattle.schema_rules.proofs.contents.ClassLemmas.{no_structural}
use Rattle.schema_rules.proofs.listed.lists_no_structural.Goals as goal

pub returns : goal.returns
returns c = record {
  exact = rw (c.has_structural.ensures.exact, c.values.ensures.exact) (sym (no_structural _));
}
