-- The class itself, or its superclasses.
use Rattle.std.proofs.Common.{sym, ◌∙◌}
use Rattle.schema_rules.proofs.contents.ClassLemmas.{flat_map-own, flat_map-above}
use Rattle.schema_rules.proofs.contents.ContentLemmas.{by_numbers}
use Rattle.dir_tree.specs.schema_tables.classes.Classes.{required_of}
use Rattle.schema_rules.proofs.contents.+lacks_of_class.Goals as goal

pub returns-then-lacks_one : goal.returns-then-lacks_one
returns-then-lacks_one t c = record {
  exact = sym (flat_map-own _ required_of c.args.class.0
      (sym (by_numbers _ _ _ c.required.ensures.exact) ∙ sym c.lacks_one.ensures.exact ∙ c.if-lacks_one.true));
}

pub returns-in-Some : goal.returns-in-Some
returns-in-Some t c = record {
  exact = c.lacks_of_class.ensures.exact ∙ sym (flat_map-above _ required_of c.args.class.0 _
      (sym (by_numbers _ _ _ c.required.ensures.exact) ∙ sym c.lacks_one.ensures.exact ∙ c.if-lacks_one.false)
      c.in-Some.ensures.exact);
}

pub returns-in-None : goal.returns-in-None
returns-in-None t c = record {
  exact = sym (flat_map-above _ required_of c.args.class.0 _
      (sym (by_numbers _ _ _ c.required.ensures.exact) ∙ sym c.lacks_one.ensures.exact ∙ c.if-lacks_one.false)
      c.in-None.ensures.exact);
}
