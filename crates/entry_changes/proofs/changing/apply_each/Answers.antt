-- Changes are made one after the other.
use Rattle.std.proofs.Common.{◌+◌, sym, ◌∙◌, drop, subst, Result}
use Rattle.std.proofs.lemmas.List.{drop_all}
use Rattle.ldap_msg.specs.plain_values.Answers.{IsFaultOf}
use Rattle.ldap_msg.specs.declared.operations.ResultCode.{ResultCode}
use Rattle.dir_tree.specs.Entry.{EntryInformation}
use Rattle.dir_tree.proofs.base_laws_proofs.Theorems.{next-item}
use Rattle.entry_changes.specs.Change.{cause_of}
use Rattle.entry_changes.specs.Steps.{left_in}
use Rattle.entry_changes.proofs.changing.RefusalLemmas.{changes-step, changes-fault, changes-done}
use Rattle.entry_changes.proofs.changing.apply_each.Goals as goal

-- one more is made
pub loop-change-preserved : goal.loop-change-preserved
loop-change-preserved g c =
    c.loop-change.invariant
    ∙ changes-step (g.A.EntryAsker.asker c.args.asker.now) (left_in c.loop-change.left) (left_in c.apply.new.self) (drop c.loop-change.change-index c.args.changes.now)
    c.change-item.result (drop (c.loop-change.change-index + 1) c.args.changes.now)
    (next-item c.args.changes.now c.loop-change.change-index c.change-item.result c.loop-change-test.true c.change-item.is) c.in-Ok.ensures.ok

-- one is not made
pub returns-in-Err-clause-refused : goal.returns-in-Err-clause-refused
returns-in-Err-clause-refused g c =
    subst (λ (expected : Result EntryInformation ResultCode). IsFaultOf (cause_of c.in-Err.fault) expected) (sym c.loop-change.invariant)
    (changes-fault (g.A.EntryAsker.asker c.args.asker.now) (left_in c.loop-change.left) (drop c.loop-change.change-index c.args.changes.now)
    c.change-item.result (drop (c.loop-change.change-index + 1) c.args.changes.now) c.in-Err.fault
    (next-item c.args.changes.now c.loop-change.change-index c.change-item.result c.loop-change-test.true c.change-item.is) c.in-Err.ensures.refused)

-- none is left
pub returns-clause-ok : goal.returns-clause-ok
returns-clause-ok g c =
    c.loop-change.invariant
    ∙ changes-done (g.A.EntryAsker.asker c.args.asker.now) (left_in c.loop-change.left) (drop c.loop-change.change-index c.args.changes.now)
    (drop_all c.loop-change.change-index c.args.changes.now c.loop-change-test.false)
