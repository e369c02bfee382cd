-- The entries change as the rows do.
use Rattle.std.proofs.Common.{ap, subst, ◌∙◌}
use Rattle.dir_tree.specs.tree.Numbered.{IsNumberedTree, entries_of}
use Rattle.dir_tree.proofs.TreeTheorems.{entries_of-without}
use Rattle.op_add_delete.proofs.deleting.remove.Goals as goal

pub returns-in-Ok-clause-ok : goal.returns-in-Ok-clause-ok
returns-in-Ok-clause-ok g c = λ target known.
    ap entries_of c.in-Ok.ensures.exact.0.left
    ∙ entries_of-without c.args.number.0 target (g.D.Dir.rows c.args.dir.now) (subst IsNumberedTree c.tree.ensures.exact c.entries_form_a_tree.ensures.exact) known
