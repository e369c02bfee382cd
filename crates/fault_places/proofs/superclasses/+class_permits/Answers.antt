-- The class itself has it not: its superclasses.
use Rattle.std.proofs.Common.{◌++◌, sym, ◌∙◌}
use Rattle.dir_tree.specs.schema_tables.classes.Classes.{required_of, allowed_of}
use Rattle.fault_places.proofs.superclasses.ClassLemmas.{from_above}
use Rattle.fault_places.proofs.superclasses.+class_permits.Goals as goal

pub returns-in-Some : goal.returns-in-Some
returns-in-Some t c = record {
  exact = c.class_permits.ensures.exact ∙ sym (from_above _ (λ number. required_of number ++ allowed_of number) c.args.class.0 _
      (sym c.row_permits.ensures.exact ∙ c.if-row_permits.false) c.in-Some.ensures.exact);
}
