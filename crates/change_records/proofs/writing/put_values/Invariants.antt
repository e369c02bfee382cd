use Rattle.std.proofs.Common.{◌≡◌, ◌++◌, take, map}
use Rattle.std.specs.List.{flat_map}
use Rattle.whole_blocks.specs.Blocks.{ended}
use Rattle.change_records.specs.Written.{row}
use Rattle.change_records.proofs.writing.put_values.Given as goal

-- the lines of the values before
abbrev pub invariant-loop-value : goal.invariant-loop-value
invariant-loop-value l = l.out.items ≡ l.initial.out.items ++ flat_map ended (map (row l.given.kind) (take l.value-index l.given.values))
