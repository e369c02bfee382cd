-- The number that a name finds is that of its entry.
use Rattle.std.proofs.Common.{◌∙◌, sym}
use Rattle.dir_tree.proofs.TreeTheorems.{named-found, named-none}
use Rattle.op_modify.specs.ReadRenames.{above}
use Rattle.op_modify.proofs.leaving.find_above.Goals as goal

pub returns-in-Some : goal.returns-in-Some
returns-in-Some c = record {
  exact =
      c.at.ensures.exact
      ∙ sym (named-found (above c.args.renaming.now) c.args.tree.now c.entries_form_a_tree.ensures.exact.distinct c.in-Some.number.0 (sym c.in-Some.ensures.exact));
}

pub returns-in-None : goal.returns-in-None
returns-in-None c = record {
  exact = sym (named-none (above c.args.renaming.now) c.args.tree.now c.entries_form_a_tree.ensures.exact.distinct (sym c.in-None.ensures.exact));
}
