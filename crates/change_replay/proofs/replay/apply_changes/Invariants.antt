-- The changes that are left, over the entries as they are, leave what all leave.
use Rattle.std.proofs.Common.{◌≡◌, drop}
use Rattle.dir_tree.specs.tree.Numbered.{entries_of}
use Rattle.change_replay.specs.Replayed.{replayed}
use Rattle.change_replay.proofs.replay.apply_changes.Given as goal

abbrev pub invariant-loop-recorded : goal.invariant-loop-recorded
invariant-loop-recorded l =
    replayed (entries_of l.initial.tree) l.changes ≡ replayed (entries_of l.tree) (drop l.recorded-index l.changes)
