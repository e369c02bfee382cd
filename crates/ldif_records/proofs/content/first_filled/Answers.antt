use Rattle.std.proofs.Common.{sym, ◌∙◌, ap}
use Rattle.ldif_records.specs.reading.Records.{records}
use Rattle.ldif_records.specs.lines.Places.{records_from}
use Rattle.ldif_records.proofs.content.ContentLemmas.{records-blank_ahead, IsRead-blank}
use Rattle.ldif_records.proofs.content.AfterLemmas.{after_both}
use Rattle.ldif_records.proofs.content.first_filled.Goals as goal

-- the first line
pub blanks-init : goal.blanks-init
unfolding records_from
blanks-init c = record {
  lines = ap records (sym c.in_ok-line.ensures.lines);
  end = c.in_ok-line.ensures.end;
  later = c.in_ok-line.ensures.later;
  place = c.in_ok-line.ensures.place;
  passed = c.in_ok-line.ensures.passed;
}

-- an empty line was passed
pub blanks-preserved : goal.blanks-preserved
blanks-preserved c =
    let blank = sym c.is_blank.ensures ∙ c.blanks-test.true in
    record {
      lines = ap records (sym c.in_ok-line-2.ensures.lines) ∙ sym (records-blank_ahead c.blanks.line _ blank) ∙ c.blanks.invariant.lines;
      end = c.in_ok-line-2.ensures.end;
      later = IsRead-blank c.blanks.line c.in_ok-line-2.field-0-0 c.args.from.offset c.blanks.at.offset c.in_ok-line-2.field-0-1.offset blank c.blanks.invariant.later c.in_ok-line-2.ensures.later;
      place = c.in_ok-line-2.ensures.place;
      passed = after_both c.args.text.now c.args.from c.blanks.at c.in_ok-line-2.field-0-1 c.blanks.invariant.passed c.in_ok-line-2.ensures.passed;
    }
