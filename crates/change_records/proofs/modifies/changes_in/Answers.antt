use Rattle.std.proofs.Common.{◌+◌, sym, ◌∙◌, ap, subst, drop, List, Result}
use Rattle.std.proofs.lemmas.List.{drop_all}
use Rattle.dir_tree.proofs.base_laws_proofs.Theorems.{next-item}
use Rattle.dir_tree.specs.plain_values.Answers.{Answers}
use Rattle.ldap_msg.specs.declared.kinds.Change.{Change}
use Rattle.ldif_records.specs.reading.Faults.{LineFault, fault_of}
use Rattle.change_records.specs.Reading.{changes_in}
use Rattle.change_records.proofs.JoinLemmas.{joined}
use Rattle.change_records.proofs.modifies.ChangeSteps.{changes-step, changes-fault, changes-done}
use Rattle.change_records.proofs.modifies.changes_in.Goals as goal

-- a line is bad
pub returns-in-Err : goal.returns-in-Err
returns-in-Err c =
    changes-fault c.args.number c.loop-line.whole.items c.loop-line.before c.args.lines.now c.loop-line.line-index c.line-item.result c.in-Err.bad _
    (next-item c.args.lines.now c.loop-line.line-index c.line-item.result c.loop-line-test.true c.line-item.is) c.loop-line.invariant c.in-Err.ensures.next

-- one line more
pub loop-line-preserved : goal.loop-line-preserved
loop-line-preserved c =
    c.loop-line.invariant
    ∙ changes-step c.args.number c.loop-line.whole.items c.loop-line.before c.in-Ok.next c.args.lines.now c.loop-line.line-index c.line-item.result
    (next-item c.args.lines.now c.loop-line.line-index c.line-item.result c.loop-line-test.true c.line-item.is) c.in-Ok.ensures.next
    ∙ ap (λ items. joined items (changes_in c.args.number c.in-Ok.next (drop (c.loop-line.line-index + 1) c.args.lines.now))) (sym c.in-Ok.ensures.whole)

-- no line is left
pub returns : goal.returns
returns c =
    subst (λ (expected : Result (List Change) LineFault). Answers (λ changes. changes) fault_of c.all_ended.result expected)
    (sym (c.loop-line.invariant ∙ changes-done c.args.number c.loop-line.whole.items c.loop-line.before _ (drop_all c.loop-line.line-index c.args.lines.now c.loop-line-test.false)))
    c.all_ended.ensures
