-- What was checked is made.
use Rattle.std.proofs.lemmas.Result.{IfOk-weaker}
use Rattle.dir_tree.specs.tree.Numbered.{entries_of}
use Rattle.op_modify.proofs.renames.TableLemmas.{renamed_by-named}
use Rattle.op_modify.proofs.renames.rename_by.Goals as goal
use Rattle.op_add_delete.proofs.Theorems.{changed-like}

pub returns-clause-ok : goal.returns-clause-ok
returns-clause-ok g c =
    IfOk-weaker c.make.result _ _
    (λ refusal made. changed-like _ _ _ refusal _
    (renamed_by-named (entries_of (g.D.Dir.rows c.args.dir.now)) c.args.who.now c.args.renaming.now c.len.result c.len.ensures.exact c.if-len-eq0.false)
    (made _ c.in_ok-checked.ensures.ok))
    c.make.ensures.ok
