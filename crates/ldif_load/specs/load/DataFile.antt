-- What a data file gives: the entries of its records, each joined to those before it, or the first fault (RFC 2849).
use Rattle.std.specs.Prelude.{ℕ, List, [], ◌∷◌, Result, Ok, Err}
use Rattle.dir_tree.specs.Entry.{EntryInformation}
use Rattle.dir_tree.specs.tree.Trees.{put_in}
use Rattle.ldif_records.specs.declared.types.Record.{Record}
use Rattle.ldif_records.specs.reading.Faults.{LineFault}
use Rattle.ldif_records.specs.reading.Faults as reading
use Rattle.ldif_records.specs.declared.types.LineCause.{LineCause}
use Rattle.ldif_records.specs.declared.types.LineCause.TheVariants.{Syntax}
use Rattle.ldif_records.specs.lines.Places.{records_from}
pub use Rattle.ldif_records.specs.lines.Places.{file_start}
use Rattle.ldif_load.specs.declared.fault.LoadCause.{LoadCause}
use Rattle.ldif_load.specs.load.Loading.{◌>>=◌, RecordFault, loaded_entry}
use Rattle.ldif_load.specs.load.Loading as loading

-- why a file is refused: a line of no good form, or a record that isn't loaded
pub data FileCause : Type 0 where
  OfLine : LineCause → FileCause
  OfRecord : LoadCause → FileCause

-- a refused file: its first bad line, and the cause
pub record FileFault : Type 0 where
  pub line : ℕ
  pub cause : FileCause

-- the fault of the file, by that of a line
abbrev pub line_fault : LineFault → FileFault
line_fault (reading.Bad line cause) = record { line = line; cause = OfLine cause }

-- the fault of the file, by that of loading a record
abbrev pub record_fault : RecordFault → FileFault
record_fault (loading.Bad line cause) = record { line = line; cause = OfRecord cause }

-- the same, of what loading a record gives
abbrev pub in_file : Result EntryInformation RecordFault → Result EntryInformation FileFault
in_file (Ok entry) = Ok entry
in_file (Err fault) = Err (record_fault fault)

-- the entry that a record of the file adds to the entries
abbrev pub record_entry : List EntryInformation → Result Record LineFault → Result EntryInformation FileFault
record_entry entries (Ok given) = in_file (loaded_entry entries given)
record_entry entries (Err bad) = Err (line_fault bad)

-- the entries with those of further records, or the first fault
unfoldable pub loads_after : List EntryInformation → List (Result Record LineFault) → Result (List EntryInformation) FileFault
loads_after entries [] = Ok entries
loads_after entries (first ∷ rest) = record_entry entries first >>= λ entry. loads_after (put_in entry entries) rest

-- the entries of all records; a file without one is bad at its first line
abbrev pub loads_records : List (Result Record LineFault) → Result (List EntryInformation) FileFault
loads_records [] = Err (record { line = 1; cause = OfLine Syntax })
loads_records (first ∷ rest) = loads_after [] (first ∷ rest)

-- the entries of a file, in the order of their names, or its first fault
unfoldable pub loads : List ℕ → Result (List EntryInformation) FileFault
loads text = loads_records (records_from text file_start)
