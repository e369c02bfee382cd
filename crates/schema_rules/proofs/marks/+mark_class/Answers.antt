-- The class itself, and its superclasses.
use Rattle.std.proofs.Common.{◌==◌, ◌++◌, sym}
use Rattle.dir_tree.specs.schema_tables.classes.Classes.{required_of, allowed_of}
use Rattle.schema_rules.proofs.contents.ClassLemmas.{flat_map-first}
use Rattle.schema_rules.proofs.contents.ContentLemmas.{marked-both}
use Rattle.schema_rules.proofs.marks.+mark_class.Goals as goal

pub returns-in-Some : goal.returns-in-Some
returns-in-Some t c = record {
  exact = marked-both _ _ _ _ _ _ c.mark_row.ensures.exact c.mark_class.ensures.exact
      (λ number. sym (flat_map-first (λ other. number == other) (λ class. required_of class ++ allowed_of class) c.args.class.0 _ c.in-Some.ensures.exact));
}
