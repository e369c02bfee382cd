-- Those that stay of the values so far, and of the values that are left, are those that stay of all.
use Rattle.std.proofs.Common.{◌≡◌, ◌++◌, drop}
use Rattle.entry_changes.specs.Steps.{staying}
use Rattle.entry_changes.proofs.effects.staying.Given as goal

abbrev pub invariant-loop-value : goal.invariant-loop-value
invariant-loop-value l = staying l.gone l.values ≡ l.left.items ++ staying l.gone (drop l.value-index l.values)
