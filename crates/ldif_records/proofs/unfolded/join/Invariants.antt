use Rattle.std.proofs.Common.{◌≡◌, ◌++◌, ◌-◌, ◌≤◌, length}
use Rattle.ldif_records.specs.lines.Lines.{continued, beginning}
use Rattle.ldif_records.specs.lines.Places.{IsPlace, IsLinesAfter, physical_from}
use Rattle.ldif_records.proofs.unfolded.join.Given as goal

-- the octets so far with those of the continuations that are left, and the lines after these
abbrev pub invariant-loop-at : goal.invariant-loop-at
invariant-loop-at l = record {
  octets : l.joined.items ++ continued (physical_from l.text l.at) ≡ l.first ++ continued (physical_from l.text l.fn.from);
  rest : beginning (physical_from l.text l.fn.from) ≡ beginning (physical_from l.text l.at);
  later : l.fn.from.offset ≤ l.at.offset;
  place : IsPlace l.text l.at;
  passed : IsLinesAfter l.text l.fn.from l.at;
}

abbrev pub decreases-loop-at : goal.decreases-loop-at
decreases-loop-at l = length l.text - l.at.offset
