-- The classes of all listed values, one value after another.
use Rattle.std.proofs.Common.{sym}
use Rattle.dir_tree.specs.schema_tables.classes.Classes.{required_of}
use Rattle.schema_rules.proofs.contents.ClassLemmas.{flat_map-all_classes}
use Rattle.schema_rules.proofs.contents.lacks_required.Goals as goal

pub returns : goal.returns
returns c = record {
  exact = rw (c.lacks_any_listed.ensures.exact, c.values.ensures.exact) (sym (flat_map-all_classes _ required_of _));
}
