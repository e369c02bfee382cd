use Rattle.std.proofs.Common.{◌≡◌, ◌++◌, take}
use Rattle.std.specs.List.{flat_map}
use Rattle.whole_blocks.specs.Blocks.{ended}
use Rattle.change_records.specs.Written.{value_rows}
use Rattle.change_records.proofs.writing.put_attributes.Given as goal

-- the lines of the attributes before
abbrev pub invariant-loop-given : goal.invariant-loop-given
invariant-loop-given l = l.out.items ≡ l.initial.out.items ++ flat_map ended (flat_map value_rows (take l.given-index l.attributes))
