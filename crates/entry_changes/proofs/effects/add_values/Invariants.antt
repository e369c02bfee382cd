-- The values that are left, put in the entry so far, leave what all leave.
use Rattle.std.proofs.Common.{◌≡◌, drop}
use Rattle.entry_changes.specs.Change.{with_each}
use Rattle.entry_changes.proofs.effects.add_values.Given as goal

abbrev pub invariant-loop-value : goal.invariant-loop-value
invariant-loop-value l =
    with_each l.kind.0 l.values l.initial.entry ≡ with_each l.kind.0 (drop l.value-index l.values) l.entry
