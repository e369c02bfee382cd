use Rattle.std.proofs.Common.{◌≡◌, ◌-◌, ◌≤◌, length}
use Rattle.ldif_records.specs.lines.Places.{IsPlace, IsLinesAfter, content_from}
use Rattle.ldif_records.proofs.content.next_content.Given as goal

-- only comments stand before
abbrev pub invariant-loop-at : goal.invariant-loop-at
invariant-loop-at l = record {
  lines : content_from l.text l.fn.from ≡ content_from l.text l.at;
  after : l.fn.from.offset ≤ l.at.offset;
  place : IsPlace l.text l.at;
  passed : IsLinesAfter l.text l.fn.from l.at;
}

abbrev pub decreases-loop-at : goal.decreases-loop-at
decreases-loop-at l = length l.text - l.at.offset
