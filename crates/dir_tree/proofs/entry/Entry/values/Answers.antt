-- The map finds the attribute's values.
use Rattle.std.proofs.Common.{sym, ap, ◌∙◌}
use Rattle.dir_tree.proofs.entry.RowLemmas.{values_of-rows, found_values}
use Rattle.dir_tree.proofs.entry.Entry.values.Goals as goal

pub returns-in-Some : goal.returns-in-Some
returns-in-Some c = record {
  exact =
      rw (← c.self.view_is)
      (c.as_slice.ensures.exact ∙ ap found_values c.in-Some.ensures.value
      ∙ sym (values_of-rows c.args.kind c.self.inside.attributes.entries));
}

pub returns-in-None : goal.returns-in-None
returns-in-None c = record {
  exact =
      rw (← c.self.view_is)
      (ap found_values c.in-None.ensures.value
      ∙ sym (values_of-rows c.args.kind c.self.inside.attributes.entries));
}
