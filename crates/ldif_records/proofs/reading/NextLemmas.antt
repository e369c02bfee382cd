-- Lemmas on the next record from a place on.
use Rattle.std.proofs.Common.{◌≡◌, ℕ, ◌<◌, ◌≤◌, sym, ◌∙◌, ap, arith, false, List, [], ◌∷◌, Option, Some, None, Result, Ok, Err}
use Rattle.std.specs.Prelude.{IfNone, IfSome}
use Rattle.ldif_records.specs.declared.types.Position.{Position}
use Rattle.ldif_records.specs.declared.types.Record.{Record}
use Rattle.ldif_records.specs.declared.types.BadLine.{BadLine}
use Rattle.ldif_records.specs.declared.types.BadLine.TheVariants as bad_line
use Rattle.dir_tree.specs.plain_values.Answers.{IsFaultOf}
use Rattle.ldif_records.specs.reading.Faults.{fault_of}
use Rattle.ldif_records.specs.lines.Lines.{Line}
use Rattle.ldif_records.specs.reading.Records.{record_of, records, first_of}
use Rattle.ldif_records.specs.lines.Places.{IsPlace, IsLinesAfter, IsNext, content_from, records_from}
use Rattle.ldif_records.specs.reading.Steps.{ahead, is_blank_ahead, before_blank, after_blank}
use Rattle.ldif_records.proofs.content.ContentLemmas.{body-later}
use Rattle.ldif_records.proofs.reading.RecordLemmas.{records-first, records-nil}
use Rattle.ldif_records.proofs.content.AfterLemmas.{after_both}

-- no line is left
pub records-none : (text : List ℕ) (from at : Position) (line : Option Line) → records_from text from ≡ records (ahead line (content_from text at)) → IfNone line (content_from text at ≡ []) → line ≡ None
    → records_from text from ≡ []
records-none text from at None start end is = start ∙ ap records end ∙ records-nil
records-none text from at (Some line) start end is = cc is

-- the records from a place on, of which the first line was read
records-start : (text : List ℕ) (from at : Position) (line : Option Line) (first : Line) → records_from text from ≡ records (ahead line (content_from text at)) → line ≡ Some first → is_blank_ahead line ≡ false
    → records_from text from ≡ record_of first (before_blank (content_from text at)) ∷ records (after_blank (content_from text at))
records-start text from at line first start is filled =
    start ∙ ap (λ found. records (ahead found (content_from text at))) is ∙ records-first first (content_from text at) (ap is_blank_ahead (sym is) ∙ filled)

-- those past the start of the file
records-later : (text : List ℕ) (at : Position) → 0 < at.offset → records_from text at ≡ records (content_from text at)
unfolding records_from
records-later text at past = ap records (body-later text at past)

-- the first record is good
pub IsNext-read : (text : List ℕ) (from at to : Position) (line : Option Line) (first : Line) (found : Record) → records_from text from ≡ records (ahead line (content_from text at)) → line ≡ Some first → is_blank_ahead line ≡ false
    → record_of first (before_blank (content_from text at)) ≡ Ok found → after_blank (content_from text at) ≡ content_from text to
    → from.offset < to.offset → IsPlace text to → IsLinesAfter text from at → IsLinesAfter text at to → IsNext text from found to
IsNext-read text from at to line first found start is filled good rest later place before passed = record {
  record_read =
      records-start text from at line first start is filled
      ∙ ap (λ front. front ∷ records (after_blank (content_from text at))) good
      ∙ ap (λ others. Ok found ∷ others) (ap records rest ∙ sym (records-later text to (omega arith)));
  later = later;
  place = place;
  passed = after_both text from at to before passed;
}

-- it is bad
pub first_of-bad : (text : List ℕ) (from at : Position) (line : Option Line) (first : Line) (bad : BadLine) → records_from text from ≡ records (ahead line (content_from text at)) → line ≡ Some first → is_blank_ahead line ≡ false
    → IsFaultOf (fault_of bad) (record_of first (before_blank (content_from text at))) → IsFaultOf (fault_of bad) (first_of (records_from text from))
first_of-bad text from at line first (bad_line.Bad number cause) start is filled fault =
    ap first_of (records-start text from at line first start is filled ∙ ap (λ front. front ∷ records (after_blank (content_from text at))) fault)
first_of-bad text from at line first bad_line.NoMemory start is filled fault = tt

-- a place after a line that was read is later
pub later-than : (line : Option Line) (first : Line) (from at to : ℕ) → line ≡ Some first → IfSome line (λ _. from < at) → at ≤ to → from < to
later-than None first from at to is later after = cc is
later-than (Some line) first from at to is later after = omega arith
