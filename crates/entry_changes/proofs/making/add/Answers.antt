-- The values come, or may not.
use Rattle.std.proofs.Common.{sym, ◌∙◌, ap}
use Rattle.entry_changes.specs.declared.kind.ChangeKind.TheVariants.{Add}
use Rattle.entry_changes.specs.Change.{are_none}
use Rattle.entry_changes.proofs.making.MadeLemmas.{add-asked, changed-made, changed-refused}
use Rattle.entry_changes.proofs.making.add.Goals as goal

pub returns-in-Some-clause-refused : goal.returns-in-Some-clause-refused
returns-in-Some-clause-refused g c =
    let asker = g.A.EntryAsker.asker c.args.asker.now in
    changed-refused asker c.args.entry.now (record { change = Add; kind = c.args.kind.0; values = c.args.values.now }) c.in-Some.code
    (sym c.in-Some.is ∙ c.add_refusal.ensures.exact
    ∙ add-asked asker c.args.entry.now c.add_values.new.entry c.args.kind.0 c.args.values.now c.are_none-absent.result c.deref.result.now
    (c.are_none-absent.ensures.exact ∙ ap are_none c.values.ensures.exact) (c.deref.ensures.value ∙ c.in_ok-there.ensures.ok) c.in_ok-add_values.ensures.ok)

pub returns-clause-ok : goal.returns-clause-ok
returns-clause-ok g c =
    let asker = g.A.EntryAsker.asker c.args.asker.now in
    changed-made asker c.args.entry.now (record { change = Add; kind = c.args.kind.0; values = c.args.values.now }) c.add_values.new.entry c.in_ok-add_values.ensures.ok
    (sym c.in-None.is ∙ c.add_refusal.ensures.exact
    ∙ add-asked asker c.args.entry.now c.add_values.new.entry c.args.kind.0 c.args.values.now c.are_none-absent.result c.deref.result.now
    (c.are_none-absent.ensures.exact ∙ ap are_none c.values.ensures.exact) (c.deref.ensures.value ∙ c.in_ok-there.ensures.ok) c.in_ok-add_values.ensures.ok)
