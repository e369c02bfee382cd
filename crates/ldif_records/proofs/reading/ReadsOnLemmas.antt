-- Lemmas on a record of which some attribute lines were read.
use Rattle.std.proofs.Common.{◌≡◌, ℕ, ◌≤◌, false, List, [], ◌∷◌, ◌++◌, Option, Some, Result, Ok, Err, refl, ◌∙◌, ap, arith}
use Rattle.std.specs.Prelude.{IfNone}
use Rattle.ldif_records.specs.declared.types.Position.{Position}
use Rattle.ldif_records.specs.declared.types.RecordLine.{RecordLine}
use Rattle.ldif_records.specs.reading.Faults.{LineFault}
use Rattle.ldif_records.specs.lines.Lines.{Line}
use Rattle.ldif_records.specs.Fields.{attribute_line}
use Rattle.ldif_records.specs.reading.Records.{is_blank, attribute_lines}
use Rattle.ldif_records.specs.lines.Places.{IsPlace, IsLinesAfter, content_from}
use Rattle.ldif_records.specs.reading.Steps.{IsRead, ahead, before_blank, after_blank, after_these}
use Rattle.ldif_records.proofs.reading.RecordLemmas.{rest-step, lines-step}
use Rattle.ldif_records.proofs.content.AfterLemmas.{after_none, after_both}

-- the lines so far and those that are left are the lines of the record, and the lines after these are the same
pub record ReadsOn (text : List ℕ) (first : Option Line) (from : Position) (found : List RecordLine) (line : Option Line) (at : Position) : Type 0 where
  pub read : after_these found (attribute_lines (before_blank (ahead line (content_from text at)))) ≡ attribute_lines (before_blank (ahead first (content_from text from)))
  pub rest : after_blank (ahead first (content_from text from)) ≡ after_blank (ahead line (content_from text at))
  pub end : IfNone line (content_from text at ≡ [])
  pub after : from.offset ≤ at.offset
  pub place : IsPlace text at
  pub passed : IsLinesAfter text from at

-- none was read yet
after_none_of_these : (reading : Result (List RecordLine) LineFault) → after_these [] reading ≡ reading
after_none_of_these (Ok lines) = refl
after_none_of_these (Err bad) = refl

pub ReadsOn-start : (text : List ℕ) (first : Option Line) (from : Position) (found : List RecordLine) → found ≡ [] → IsPlace text from → IfNone first (content_from text from ≡ [])
    → ReadsOn text first from found first from
ReadsOn-start text first from found none place end = record {
  read = ap (λ lines. after_these lines (attribute_lines (before_blank (ahead first (content_from text from))))) none ∙ after_none_of_these _;
  rest = refl;
  end = end;
  after = omega arith;
  place = place;
  passed = after_none text from;
}

-- one more was read
pub ReadsOn-step :
    (text : List ℕ) (first : Option Line) (from : Position) (found more : List RecordLine) (line next : Option Line) (at to : Position) (this : Line) (good : RecordLine)
    → ReadsOn text first from found line at → line ≡ Some this → is_blank this ≡ false → attribute_line this ≡ Ok good → more ≡ found ++ good ∷ []
    → IsRead (content_from text at) text at next to → ReadsOn text first from more next to
ReadsOn-step text first from found more line next at to this good so is says given pushed read = record {
  read = ap (λ lines. after_these lines (attribute_lines (before_blank (ahead next (content_from text to))))) pushed
      ∙ lines-step found line this _ _ good _ is says read.lines given so.read;
  rest = rest-step line this _ _ _ is says read.lines so.rest;
  end = read.end;
  after = omega (arith, so.after, read.after);
  place = read.place;
  passed = after_both text from at to so.passed read.passed;
}
