use Rattle.std.proofs.Common.{◌≡◌, ◌++◌, take}
use Rattle.std.specs.List.{flat_map}
use Rattle.whole_blocks.specs.Blocks.{ended}
use Rattle.change_records.specs.Written.{change_rows}
use Rattle.change_records.proofs.writing.put_changes.Given as goal

-- the lines of the changes before
abbrev pub invariant-loop-change : goal.invariant-loop-change
invariant-loop-change l = l.out.items ≡ l.initial.out.items ++ flat_map ended (flat_map change_rows (take l.change-index l.changes))
