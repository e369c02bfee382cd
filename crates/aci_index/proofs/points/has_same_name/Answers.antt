-- A name that is kept is the same.
use Rattle.std.proofs.Common.{sym, ◌∙◌}
use Rattle.dir_tree.proofs.TreeTheorems.{same_back}
use Rattle.aci_index.proofs.points.has_same_name.Goals as goal

pub returns-then-successor : goal.returns-then-successor
returns-then-successor c = record {
  exact = c.if-successor.true
      ∙ sym (same_back c.args.successor.now.entry.name c.args.old.now.name (c.requires.named c.if-successor.true));
}
