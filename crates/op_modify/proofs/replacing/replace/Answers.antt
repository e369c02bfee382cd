-- The entries change as the rows do.
use Rattle.std.proofs.Common.{ap, subst, ◌∙◌}
use Rattle.dir_tree.specs.tree.Trees.{put_in}
use Rattle.dir_tree.specs.tree.Numbered.{IsNumberedTree, entries_of, without}
use Rattle.dir_tree.proofs.TreeTheorems.{entries_of-put_row, entries_of-without}
use Rattle.op_modify.proofs.replacing.replace.Goals as goal

pub returns-in-Ok-clause-ok : goal.returns-in-Ok-clause-ok
returns-in-Ok-clause-ok g c = λ target known.
    let rows = g.D.Dir.rows c.args.dir.now in
    ap entries_of c.in-Ok.ensures.exact.0.left
    ∙ entries_of-put_row (record { id = c.args.number.0; entry = c.args.entry }) (without c.args.number.0 rows)
    ∙ ap (put_in c.args.entry) (entries_of-without c.args.number.0 target rows (subst IsNumberedTree c.tree.ensures.exact c.entries_form_a_tree.ensures.exact) known)
