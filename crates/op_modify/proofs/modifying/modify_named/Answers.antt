-- The name is the empty one or not.
use Rattle.std.proofs.Common.{◌∙◌, sym}
use Rattle.std.proofs.lemmas.Result.{IfOk-weaker}
use Rattle.dir_tree.specs.tree.Numbered.{entries_of}
use Rattle.op_modify.proofs.modifying.ChangeLemmas.{modified-root, modified-entry}
use Rattle.op_modify.proofs.modifying.modify_named.Goals as goal
use Rattle.op_add_delete.proofs.Theorems.{changed-refused, changed-like}

pub returns-then-len-eq0-clause-ok : goal.returns-then-len-eq0-clause-ok
returns-then-len-eq0-clause-ok g c =
    changed-refused _ _ _ _ (modified-root (entries_of (g.D.Dir.rows c.args.dir.now)) c.args.who.now c.args.given.now c.args.name.now (sym c.len.ensures.exact ∙ c.if-len-eq0.true)) c.result_of.ensures.exact

pub returns-clause-ok : goal.returns-clause-ok
returns-clause-ok g c =
    IfOk-weaker c.modify_entry.result _ _
    (λ refusal is. changed-like _ _ _ refusal _
    (modified-entry (entries_of (g.D.Dir.rows c.args.dir.now)) c.args.who.now c.args.given.now c.args.name.now (λ none. c.if-len-eq0.false (c.len.ensures.exact ∙ none))) is)
    c.modify_entry.ensures.ok
