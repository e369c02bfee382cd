-- The values so far are put behind.
use Rattle.std.proofs.Common.{◌≡◌, ◌++◌, take}
use Rattle.entry_changes.proofs.pending.put_all.Given as goal

abbrev pub invariant-loop-value : goal.invariant-loop-value
invariant-loop-value l = l.gone ≡ l.initial.gone ++ take l.value-index l.values
