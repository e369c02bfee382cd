-- The name is the empty one or not.
use Rattle.std.proofs.Common.{◌∙◌, sym}
use Rattle.std.proofs.lemmas.Result.{IfOk-weaker}
use Rattle.dir_tree.specs.tree.Numbered.{entries_of}
use Rattle.op_add_delete.proofs.adding.UpdateLemmas.{changed-refused, changed-like, added-root, added-filled, filled-name}
use Rattle.op_add_delete.proofs.adding.add_named.Goals as goal

pub returns-then-len-eq0-clause-ok : goal.returns-then-len-eq0-clause-ok
returns-then-len-eq0-clause-ok g c =
    changed-refused _ _ _ _ (added-root (entries_of (g.D.Dir.rows c.args.dir.now)) c.args.who.now c.args.given.now c.args.name (sym c.len.ensures.exact ∙ c.if-len-eq0.true)) c.result_of.ensures.exact

pub add_entry-requires : goal.add_entry-requires
add_entry-requires g c = record { named = filled-name c.args.name (λ none. c.if-len-eq0.false (c.len.ensures.exact ∙ none)) }

pub returns-clause-ok : goal.returns-clause-ok
returns-clause-ok g c =
    IfOk-weaker c.add_entry.result _ _
    (λ refusal is. changed-like _ _ _ refusal _
    (added-filled (entries_of (g.D.Dir.rows c.args.dir.now)) c.args.who.now c.args.given.now c.args.name (λ none. c.if-len-eq0.false (c.len.ensures.exact ∙ none))) is)
    c.add_entry.ensures.ok
