-- The new entry has its name.
use Rattle.std.proofs.Common.{◌∙◌, sym}
use Rattle.std.proofs.lemmas.Result.{IfOk-weaker}
use Rattle.dir_tree.specs.tree.Numbered.{entries_of}
use Rattle.op_add_delete.proofs.adding.UpdateLemmas.{changed-like, named-new, added-new}
use Rattle.op_add_delete.proofs.adding.add_entry.Goals as goal

pub add_new-requires : goal.add_new-requires
add_new-requires g c =
    let is_new = c.in-Ok.ensures.ok in
    record { named = λ none. c.requires.named (sym (named-new c.args.name is_new.attributes c.in-Ok.entry is_new.made) ∙ none) }

pub returns-in-Ok-clause-ok : goal.returns-in-Ok-clause-ok
returns-in-Ok-clause-ok g c =
    let is_new = c.in-Ok.ensures.ok in
    let entries = entries_of (g.D.Dir.rows c.args.dir.now) in
    IfOk-weaker c.add_new.result _ _
    (λ refusal is. changed-like _ _ _ refusal _ (added-new entries c.args.who.now c.args.name _ is_new.attributes c.in-Ok.entry is_new.read is_new.made) is)
    c.add_new.ensures.ok
