-- The changes so far, before those of what is left, are all.
use Rattle.std.proofs.Common.{◌≡◌, drop}
use Rattle.op_modify.specs.ReadChanges.{read_each}
use Rattle.op_modify.proofs.reading.read_each.Given as goal
use Rattle.op_add_delete.proofs.Theorems.{put_before}

abbrev pub invariant-loop-item : goal.invariant-loop-item
invariant-loop-item l =
    read_each l.given ≡ put_before l.changes.items (read_each (drop l.item-index l.given))
