-- The structural classes are those that pass the test, value by value.
use Rattle.std.proofs.Common.{sym}
use Rattle.schema_rules.proofs.contents.ClassLemmas.{two_lines}
use Rattle.schema_rules.proofs.listed.lists_two_lines.Goals as goal

pub returns : goal.returns
returns c = record {
  exact = rw (c.has_two_lines.ensures.exact, c.values.ensures.exact) (sym (two_lines _));
}
