use Rattle.std.proofs.Common.{◌≡◌, ◌≤◌, length, drop, []}
use Rattle.whole_blocks.specs.Blocks.{whole_part}
use Rattle.whole_blocks.proofs.whole.whole_length.Given as goal

-- no block ends at the place or behind it
abbrev pub invariant-loop-from : goal.invariant-loop-from
invariant-loop-from l = record {
  nothing : whole_part (drop l.from l.text) ≡ [];
  within : l.from ≤ length l.text;
}

abbrev pub decreases-loop-from : goal.decreases-loop-from
decreases-loop-from l = l.from
