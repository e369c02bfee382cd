-- An entry has the name where its number is found.
use Rattle.std.proofs.Common.{◌∙◌}
use Rattle.dir_tree.specs.declared.number.EntryNo.{EntryNo}
use Rattle.dir_tree.proofs.TreeTheorems.{has_name-found}
use Rattle.op_modify.specs.ReadRenames.{above}
use Rattle.op_modify.proofs.leaving.has_above.Goals as goal

pub returns : goal.returns
returns c = record {
  exact = c.is_some.ensures ∙ has_name-found (λ (no : EntryNo). no.0) c.number_above.result (above c.args.renaming.now) c.args.tree.now c.number_above.ensures.exact;
}
