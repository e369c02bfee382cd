use Rattle.std.proofs.Common.{◌≡◌, ◌++◌, length, []}
use Rattle.std.specs.Prelude.{IfNone}
use Rattle.ldif_records.specs.lines.Places.{IsPlace, content_from}
use Rattle.ldif_records.specs.reading.Steps.{ahead}
use Rattle.change_records.proofs.content.content_from.Given as goal

-- the lines so far and those that are left are all
abbrev pub invariant-lines : goal.invariant-lines
invariant-lines l = record {
  whole : content_from l.text l.fn.from ≡ l.lines.items ++ ahead l.line (content_from l.text l.at);
  end : IfNone l.line (content_from l.text l.at ≡ []);
  place : IsPlace l.text l.at;
}

abbrev pub decreases-lines : goal.decreases-lines
decreases-lines l = length (ahead l.line (content_from l.text l.at))
