-- The entries change as the rows do.
use Rattle.std.proofs.Common.{ap, ◌∙◌}
use Rattle.dir_tree.specs.tree.Numbered.{entries_of}
use Rattle.dir_tree.proofs.TreeTheorems.{entries_of-put_row}
use Rattle.op_add_delete.proofs.adding.insert.Goals as goal

pub returns-in-Ok-clause-ok : goal.returns-in-Ok-clause-ok
returns-in-Ok-clause-ok g c =
    ap entries_of c.in-Ok.ensures.exact.0.left ∙ entries_of-put_row (record { id = c.in-Ok._number.0; entry = c.args.entry }) (g.D.Dir.rows c.args.dir.now)
