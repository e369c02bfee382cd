-- What a data file says from a place on: its lines, and its records, each with the place after it.
use Rattle.std.specs.Prelude.{◌≡◌, ℕ, ◌+◌, ◌<◌, ◌≤◌, ◌==◌, if◌then◌else◌, List, ◌∷◌, ◌++◌, length, drop, Result, Ok}
use Rattle.std.specs.Str.Lines.{lines}
use Rattle.ldif_records.specs.declared.types.Position.{Position}
use Rattle.ldif_records.specs.declared.types.Record.{Record}
use Rattle.ldif_records.specs.reading.Faults.{LineFault}
use Rattle.ldif_records.specs.lines.Lines.{Line, numbered, logical}
use Rattle.ldif_records.specs.reading.Records.{without_comments, without_version, records}

-- the place lies in the file, and no more lines than octets stand before it
pub record IsPlace (text : List ℕ) (place : Position) : Type 0 where
  pub within : place.offset ≤ length text
  pub counted : place.line ≤ place.offset + 1

-- the place where a file begins
abbrev pub file_start : Position
file_start = record { offset = 0; line = 1 }

-- the lines as they stand
unfoldable pub physical_from : List ℕ → Position → List Line
physical_from text place = numbered place.line (lines (drop place.offset text))

-- the second place stands some whole lines after the first, and its number is that of the line after these
pub record IsLinesAfter (text : List ℕ) (from to : Position) : Type 0 where
  pub passed : List Line
  pub lines : physical_from text from ≡ passed ++ physical_from text to
  pub counted : to.line ≡ from.line + length passed

-- the lines with their continuations
unfoldable pub logical_from : List ℕ → Position → List Line
logical_from text place = logical (physical_from text place)

-- those that are no comments
unfoldable pub content_from : List ℕ → Position → List Line
content_from text place = without_comments (logical_from text place)

-- those of the records: the version may stand before them, at the start of the file alone
unfoldable pub body_from : List ℕ → Position → List Line
body_from text place =
    if place.offset == 0 then without_version (content_from text place) else content_from text place

-- the records
unfoldable pub records_from : List ℕ → Position → List (Result Record LineFault)
records_from text place = records (body_from text place)

-- the record is the first from one place on, and the records after it are those from the other place on
pub record IsNext (text : List ℕ) (from : Position) (first : Record) (to : Position) : Type 0 where
  pub record_read : records_from text from ≡ Ok first ∷ records_from text to
  pub later : from.offset < to.offset
  pub place : IsPlace text to
  pub passed : IsLinesAfter text from to
