-- Of each of the values so far it is known whether it is there.
use Rattle.std.proofs.Common.{◌≡◌, take}
use Rattle.dir_tree.specs.Entry.{values_of}
use Rattle.entry_changes.specs.Steps.{there_among}
use Rattle.entry_changes.proofs.making.there_among.Given as goal

abbrev pub invariant-loop-value : goal.invariant-loop-value
invariant-loop-value l =
    l.there.items ≡ there_among (values_of l.kind.0 l.entry.attributes) (take l.value-index l.values)
