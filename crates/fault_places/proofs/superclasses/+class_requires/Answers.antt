-- The class itself has it not: its superclasses.
use Rattle.std.proofs.Common.{sym, ap, ◌∙◌}
use Rattle.dir_tree.specs.schema_tables.classes.Classes.{required_of}
use Rattle.aci_item.specs.Listed.{is_among}
use Rattle.fault_places.proofs.superclasses.ClassLemmas.{from_above}
use Rattle.fault_places.proofs.superclasses.+class_requires.Goals as goal

pub returns-in-Some : goal.returns-in-Some
returns-in-Some t c = record {
  exact = c.class_requires.ensures.exact ∙ sym (from_above _ required_of c.args.class.0 _
      (ap (is_among c.args.kind.0) (sym c.required.ensures.exact) ∙ sym c.is_among.ensures.exact ∙ c.if-is_among.false) c.in-Some.ensures.exact);
}
