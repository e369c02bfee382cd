-- The laws of loading: what a record that is loaded makes of the entries, and how a file goes on after it.
use Rattle.std.specs.Prelude.{◌≡◌, ◌≢◌, ℕ, List, [], Ok, Err}
use Rattle.dir_tree.specs.Entry.{EntryInformation}
use Rattle.dir_tree.specs.tree.Trees.{put_in}
use Rattle.dir_tree.specs.tree.Numbered.{Numbered, entries_of}
use Rattle.ldif_records.specs.declared.types.Position.{Position}
use Rattle.ldif_records.specs.declared.types.Record.{Record}
use Rattle.ldif_records.specs.reading.Faults.{LineFault}
use Rattle.ldif_records.specs.declared.types.LineCause.TheVariants.{Syntax}
use Rattle.ldif_records.specs.reading.Records.{first_of}
use Rattle.ldif_records.specs.lines.Places.{IsNext, records_from}
use Rattle.ldif_load.specs.load.Loading.{◌>>=◌, RecordFault, loaded_entry, IsLoaded}
use Rattle.ldif_load.specs.load.DataFile.{OfLine, record_fault, line_fault, record_entry, loads_after, file_start, loads}

-- a record that is loaded puts its entry in
abbrev pub PutsItsEntryIn : Type 0
PutsItsEntryIn = (old new : List Numbered) (given : Record) (step : IsLoaded old given new) → entries_of new ≡ put_in step.entry (entries_of old)

-- the first record from a place on gives its entry or its fault, and those after it go on from there
abbrev pub GoesOnAfterARecord : Type 0
GoesOnAfterARecord =
    (entries : List EntryInformation) (text : List ℕ) (from to : Position) (given : Record) → IsNext text from given to
    → loads_after entries (records_from text from)
    ≡ (record_entry entries (Ok given) >>= λ entry. loads_after (put_in entry entries) (records_from text to))

-- the same for the entries of a tree, where the record was loaded into it
abbrev pub GoesOnWhereLoaded : Type 0
GoesOnWhereLoaded =
    (old new : List Numbered) (text : List ℕ) (from to : Position) (given : Record) → IsNext text from given to → IsLoaded old given new
    → loads_after (entries_of old) (records_from text from) ≡ loads_after (entries_of new) (records_from text to)

-- the fault of a record is that of the file
abbrev pub EndsAtABadRecord : Type 0
EndsAtABadRecord =
    (entries : List EntryInformation) (text : List ℕ) (from to : Position) (given : Record) (fault : RecordFault) → IsNext text from given to
    → loaded_entry entries given ≡ Err fault → loads_after entries (records_from text from) ≡ Err (record_fault fault)

-- the fault of a line is that of the file
abbrev pub EndsAtABadLine : Type 0
EndsAtABadLine =
    (entries : List EntryInformation) (text : List ℕ) (from : Position) (bad : LineFault) → first_of (records_from text from) ≡ Err bad
    → loads_after entries (records_from text from) ≡ Err (line_fault bad)

-- where no record is left, the entries are those of the file
abbrev pub EndsWithItsEntries : Type 0
EndsWithItsEntries = (entries : List EntryInformation) (text : List ℕ) (from : Position) → records_from text from ≡ [] → loads_after entries (records_from text from) ≡ Ok entries

-- a file begins without entries
abbrev pub BeginsWithoutEntries : Type 0
BeginsWithoutEntries = (text : List ℕ) → records_from text file_start ≢ [] → loads text ≡ loads_after [] (records_from text file_start)

-- a file without a record is bad at its first line
abbrev pub IsBadWithoutARecord : Type 0
IsBadWithoutARecord = (text : List ℕ) → records_from text file_start ≡ [] → loads text ≡ Err (record { line = 1; cause = OfLine Syntax })
