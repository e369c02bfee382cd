-- The changes that are left, made in the entry so far, give what all give.
use Rattle.std.proofs.Common.{◌≡◌, drop}
use Rattle.entry_changes.specs.Change.{changed_by}
use Rattle.entry_changes.specs.Steps.{left_in}
use Rattle.entry_changes.proofs.changing.apply_each.Given as goal

abbrev pub invariant-loop-change : goal.invariant-loop-change
invariant-loop-change g l =
    changed_by (g.A.EntryAsker.asker l.asker) (left_in l.initial.left) l.changes
    ≡ changed_by (g.A.EntryAsker.asker l.asker) (left_in l.left) (drop l.change-index l.changes)
