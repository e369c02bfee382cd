-- The changes leave an entry, or are refused.
use Rattle.std.proofs.Common.{◌≡◌, ◌∙◌, Result, Err, ap, sym, subst}
use Rattle.std.proofs.lemmas.Result.{IfOk-weaker}
use Rattle.dir_tree.specs.Entry.{EntryInformation}
use Rattle.dir_tree.specs.tree.Numbered.{entries_of}
use Rattle.ldap_msg.specs.declared.operations.ResultCode.{ResultCode}
use Rattle.entry_changes.specs.Change.{changed_by}
use Rattle.op_add_delete.specs.adding.Updates.{Refused}
use Rattle.op_modify.specs.Modifying.{asker_of, modified_as}
use Rattle.op_modify.specs.Steps.{IsChecked}
use Rattle.op_modify.proofs.modifying.check_changes.Goals as goal

pub returns-in-Ok-clause-ok : goal.returns-in-Ok-clause-ok
returns-in-Ok-clause-ok g c =
    let target = c.args.target.now in
    let rows = g.D.Dir.rows target.asking.now.dir.now in
    IfOk-weaker c.check_left.result _ _
    (λ checked is. subst (λ (left : Result EntryInformation ResultCode). IsChecked (modified_as (entries_of rows) target.entry.now left) rows checked) (sym c.in-Ok.ensures.exact) is)
    c.check_left.ensures.ok

pub returns-in-Err-Refused-clause-ok : goal.returns-in-Err-Refused-clause-ok
returns-in-Err-Refused-clause-ok g c =
    let target = c.args.target.now in
    let rows = g.D.Dir.rows target.asking.now.dir.now in
    let told : changed_by (asker_of (entries_of rows) target.asking.now.who.now target.entry.now) target.entry.now c.args.changes.items ≡ Err c.in-Err-Refused.code =
    rw c.in-Err-Refused.field-0-is at c.in-Err-Refused.ensures.exact in
    ap (modified_as (entries_of rows) target.entry.now) told ∙ ap Refused (sym c.result_of.ensures.exact)
