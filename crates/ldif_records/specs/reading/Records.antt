-- The records of a data file (RFC 2849, ldif-content): lines between empty ones, read line by line.
use Rattle.std.specs.Prelude.{◌==◌, not, Bool, if◌then◌else◌, List, [], ◌∷◌, length, filter, codes, Option, Some, None, Result, Ok, Err}
use Rattle.std.specs.List.{filter_map, slice_split}
use Rattle.std.specs.Str.{bytes_eq}
pub use Rattle.dir_tree.specs.plain_values.Results.{◌>>=◌}
use Rattle.ldif_records.specs.declared.types.Record.{Record}
use Rattle.ldif_records.specs.declared.types.RecordLine.{RecordLine}
use Rattle.ldif_records.specs.reading.Faults.{LineFault}
use Rattle.ldif_records.specs.lines.Lines.{Line, begins_with}
use Rattle.ldif_records.specs.Fields.{attribute_line, name_line}

-- the line is a comment: it says nothing, and ends nothing
abbrev pub is_comment : Line → Bool
is_comment line = begins_with 35 line.octets

-- the lines that are no comments
unfoldable pub without_comments : List Line → List Line
without_comments lines = filter (λ line. not (is_comment line)) lines

-- the line gives the version of the format
unfoldable pub is_version : Line → Bool
is_version line = bytes_eq line.octets (codes "version: 1")

-- the lines of a file after the one that may give the version
unfoldable pub without_version : List Line → List Line
without_version [] = []
without_version (line ∷ rest) = if is_version line then rest else line ∷ rest

-- an empty line
abbrev pub is_blank : Line → Bool
is_blank line = length line.octets == 0

-- the attribute lines of a record, or the first bad one
unfoldable pub attribute_lines : List Line → Result (List RecordLine) LineFault
attribute_lines [] = Ok []
attribute_lines (line ∷ rest) = attribute_line line >>= λ first. attribute_lines rest >>= λ others. Ok (first ∷ others)

-- the record of a first line and the lines after it, or its first bad line
unfoldable pub record_of : Line → List Line → Result Record LineFault
record_of first rest = name_line (length rest == 0) first >>= λ name. attribute_lines rest >>= λ lines.
    Ok (record { line = first.number; name = name; lines = lines })

-- the record of lines between empty ones; no record where there are none
abbrev pub record_between : List Line → Option (Result Record LineFault)
record_between [] = None
record_between (first ∷ rest) = Some (record_of first rest)

-- the records of lines that are no comments
unfoldable pub records : List Line → List (Result Record LineFault)
records lines = filter_map record_between (slice_split is_blank lines)

-- the first of them, if there is one, or its first bad line
abbrev pub first_of : List (Result Record LineFault) → Result (Option Record) LineFault
first_of [] = Ok None
first_of (Ok first ∷ rest) = Ok (Some first)
first_of (Err bad ∷ rest) = Err bad
