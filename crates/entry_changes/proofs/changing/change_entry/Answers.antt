-- The entry that the changes leave has its name.
use Rattle.std.proofs.Common.{◌≡◌, Ok, arith}
use Rattle.std.proofs.lemmas.Grind.{common_steps}
use Rattle.entry_changes.specs.Change.{changed_by}
use Rattle.entry_changes.proofs.changing.NameLemmas.{name-left}
use Rattle.entry_changes.proofs.changing.change_entry.Goals as goal

pub returns-in-Ok-clause-named : goal.returns-in-Ok-clause-named
returns-in-Ok-clause-named g c =
    let made : changed_by (g.A.EntryAsker.asker c.args.asker.now) c.args.entry.now c.args.changes.items ≡ Ok c.in_ok-into_entry-in-Ok.field-0 = grind (arith, common_steps) in
    name-left _ _ _ _ made
