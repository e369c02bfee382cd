use Rattle.std.proofs.Common.{◌≡◌, ◌+◌, drop}
use Rattle.std.specs.List.{position_or_len}
use Rattle.ldif_records.specs.reading.Records.{is_blank}
use Rattle.change_records.proofs.files.filled_lines.Given as goal

-- the lines before aren't empty
abbrev pub invariant-loop-place : goal.invariant-loop-place
invariant-loop-place l = position_or_len is_blank l.lines ≡ l.place + position_or_len is_blank (drop l.place l.lines)
