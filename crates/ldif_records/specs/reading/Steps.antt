-- How a record is read step by step: what is left of the lines.
use Rattle.std.specs.Prelude.{◌≡◌, ℕ, ◌<◌, ◌≤◌, if◌then◌else◌, Bool, true, false, List, [], ◌∷◌, ◌++◌, Option, Some, None, Result, Ok, Err, IfSome, IfNone}
use Rattle.ldif_records.specs.declared.types.Position.{Position}
use Rattle.ldif_records.specs.declared.fields.Parts.{Parts}
use Rattle.ldif_records.specs.declared.types.RecordLine.{RecordLine}
use Rattle.ldif_records.specs.reading.Faults.{LineFault}
use Rattle.ldif_records.specs.lines.Lines.{Line, is_continuation}
use Rattle.ldif_records.specs.Fields.{Field}
use Rattle.ldif_records.specs.reading.Records.{is_blank, is_version}
use Rattle.ldif_records.specs.lines.Places.{IsPlace, IsLinesAfter, content_from}

-- the first line continues the one before
abbrev pub goes_on : List Line → Bool
goes_on [] = false
goes_on (line ∷ rest) = is_continuation line

-- a line that was read, if any, and those after it
abbrev pub ahead : Option Line → List Line → List Line
ahead None rest = rest
ahead (Some line) rest = line ∷ rest

-- from one place on, of the lines that are left the first was read, or there was none; the rest are those from
-- the other place on
pub record IsRead (left : List Line) (text : List ℕ) (from : Position) (found : Option Line) (to : Position) : Type 0 where
  pub lines : left ≡ ahead found (content_from text to)
  pub end : IfNone found (content_from text to ≡ [])
  pub later : IfSome found (λ _. from.offset < to.offset)
  pub after : from.offset ≤ to.offset
  pub place : IsPlace text to
  pub passed : IsLinesAfter text from to

-- the line that was read is empty
abbrev pub is_blank_ahead : Option Line → Bool
is_blank_ahead None = false
is_blank_ahead (Some line) = is_blank line

-- no line was read, or an empty one: no line of the same record is ahead
abbrev pub ends_ahead : Option Line → Bool
ends_ahead None = true
ends_ahead (Some line) = is_blank line

-- the line that was read gives the version
abbrev pub is_version_ahead : Option Line → Bool
is_version_ahead None = false
is_version_ahead (Some line) = is_version line

-- the lines before the first empty one
unfoldable pub before_blank : List Line → List Line
before_blank [] = []
before_blank (line ∷ rest) = if is_blank line then [] else line ∷ before_blank rest

-- the lines after it
unfoldable pub after_blank : List Line → List Line
after_blank [] = []
after_blank (line ∷ rest) = if is_blank line then rest else after_blank rest

-- lines that were read, and what reading the others gives
abbrev pub after_these : List RecordLine → Result (List RecordLine) LineFault → Result (List RecordLine) LineFault
after_these found (Ok others) = Ok (found ++ others)
after_these found (Err bad) = Err bad

-- the field that the program holds as parts of a line
abbrev pub field_in : Parts → Field
field_in parts = record { kind = parts.kind.now; coded = parts.coded; text = parts.text.now }
