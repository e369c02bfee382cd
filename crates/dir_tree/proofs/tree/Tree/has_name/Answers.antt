-- A name is there where it is found.
use Rattle.std.proofs.Common.{◌∙◌}
use Rattle.dir_tree.specs.declared.number.EntryNo.{EntryNo}
use Rattle.dir_tree.proofs.tree.KeptLemmas.{has_name-found}
use Rattle.dir_tree.proofs.tree.Tree.has_name.Goals as goal

pub returns : goal.returns
returns c = record {
  exact = c.is_some.ensures ∙ has_name-found (λ (no : EntryNo). no.0) c.find.result c.args.name.now c.args.self.now c.find.ensures.exact;
}
