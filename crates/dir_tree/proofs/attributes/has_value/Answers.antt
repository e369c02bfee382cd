-- The map finds the values of the type.
use Rattle.std.proofs.Common.{sym, ap, ◌∙◌}
use Rattle.dir_tree.specs.Entry.{has_key}
use Rattle.dir_tree.proofs.entry.RowLemmas.{values_of-rows, found_values}
use Rattle.dir_tree.proofs.attributes.has_value.Goals as goal

pub returns-in-Some : goal.returns-in-Some
returns-in-Some c = record {
  exact =
      c.has_key.ensures.exact
      ∙ ap (has_key c.args.key.now)
      (ap found_values c.in-Some.ensures.value ∙ sym (values_of-rows c.args.kind c.args.attributes.now.entries));
}

pub returns-in-None : goal.returns-in-None
returns-in-None c = record {
  exact =
      ap (has_key c.args.key.now)
      (ap found_values c.in-None.ensures.value ∙ sym (values_of-rows c.args.kind c.args.attributes.now.entries));
}
