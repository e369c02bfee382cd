use Rattle.std.proofs.Common.{length}
use Rattle.ldif_records.specs.lines.Places.{content_from}
use Rattle.ldif_records.specs.reading.Steps.{ahead}
use Rattle.ldif_records.proofs.reading.ReadsOnLemmas.{ReadsOn}
use Rattle.ldif_records.proofs.reading.attribute_lines.Given as goal

-- the lines so far and those that are left are the lines of the record
abbrev pub invariant-lines : goal.invariant-lines
invariant-lines l = ReadsOn l.text l.fn.first l.fn.from l.lines.items l.line l.at

abbrev pub decreases-lines : goal.decreases-lines
decreases-lines l = length (ahead l.line (content_from l.text l.at))
