use Rattle.std.proofs.Common.{◌≡◌, ◌<◌, length, []}
use Rattle.std.specs.Prelude.{IfSome, IfNone}
use Rattle.ldif_records.specs.reading.Records.{records}
use Rattle.ldif_records.specs.lines.Places.{IsPlace, IsLinesAfter, content_from, records_from}
use Rattle.ldif_records.specs.reading.Steps.{ahead}
use Rattle.ldif_records.proofs.content.first_filled.Given as goal

-- only empty lines stand before
abbrev pub invariant-blanks : goal.invariant-blanks
invariant-blanks l = record {
  lines : records (ahead l.line (content_from l.text l.at)) ≡ records_from l.text l.fn.from;
  end : IfNone l.line (content_from l.text l.at ≡ []);
  later : IfSome l.line (λ _. l.fn.from.offset < l.at.offset);
  place : IsPlace l.text l.at;
  passed : IsLinesAfter l.text l.fn.from l.at;
}

abbrev pub decreases-blanks : goal.decreases-blanks
decreases-blanks l = length (ahead l.line (content_from l.text l.at))
