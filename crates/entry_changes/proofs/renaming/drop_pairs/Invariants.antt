-- The old pairs that are left, taken out of the entry so far, leave what all leave.
use Rattle.std.proofs.Common.{◌≡◌, drop}
use Rattle.entry_changes.specs.Renaming.{gone_among, without_pairs}
use Rattle.entry_changes.proofs.renaming.drop_pairs.Given as goal

abbrev pub invariant-loop-pair : goal.invariant-loop-pair
invariant-loop-pair l =
    without_pairs l.initial.entry (gone_among l.old l.new)
    ≡ without_pairs l.entry (gone_among (drop l.pair-index l.old) l.new)
