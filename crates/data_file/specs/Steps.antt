-- How a file is loaded record by record: what one step does, and what a fault of the crates below is here; and how one
-- is written, entry by entry.
use Rattle.std.specs.Prelude.{ℕ, List, []}
use Rattle.std.specs.List.{AllByRecursion}
use Rattle.std.specs.Option.{option_map_or}
use Rattle.dir_tree.specs.Entry.{EntryInformation}
use Rattle.dir_tree.specs.tree.Numbered.{Numbered, entry_of}
use Rattle.ldif_load.specs.ldif_records.declared.types.Position.{Position}
use Rattle.ldif_load.specs.ldif_records.declared.types.Record.{Record}
use Rattle.ldif_load.specs.ldif_records.declared.types.BadLine.{BadLine}
use Rattle.ldif_load.specs.ldif_records.declared.types.BadLine.TheVariants as reading
use Rattle.ldif_load.specs.ldif_records.lines.Places.{IsNext}
use Rattle.ldif_load.specs.ldif_records.writing.Written.{AreInTable}
use Rattle.ldif_load.specs.ldif_records.writing.WrittenFile.{written_record}
use Rattle.ldif_load.specs.declared.fault.LoadFault.{LoadFault}
use Rattle.ldif_load.specs.declared.fault.LoadFault.TheVariants as loading
use Rattle.ldif_load.specs.load.Loading.{IsLoaded}
use Rattle.data_file.specs.declared.fault.DataCause.TheVariants.{Line, Record as OfRecord}
use Rattle.data_file.specs.declared.fault.DataFault.{DataFault}
use Rattle.data_file.specs.declared.fault.DataFault.TheVariants.{Bad, NoMemory}

-- the fault of the file, by that of a line
abbrev pub of_line : BadLine → DataFault
of_line (reading.Bad line cause) = Bad line (Line cause)
of_line reading.NoMemory = NoMemory

-- the fault of the file, by that of loading a record
abbrev pub of_record : LoadFault → DataFault
of_record (loading.Bad line cause) = Bad line (OfRecord cause)
of_record loading.NoMemory = NoMemory

-- the first record from one place on was loaded, and the other place stands after it
pub record IsStep (text : List ℕ) (from : Position) (old : List Numbered) (to : Position) (new : List Numbered) : Type 0 where
  pub given : Record
  pub next : IsNext text from given to
  pub loaded : IsLoaded old given new

-- an empty line and the record of the entry of a number: nothing where the number is not in use
abbrev pub text_at : List Numbered → ℕ → List ℕ
text_at rows id = option_map_or written_record (entry_of id rows) []

-- the types of all attributes are in the table
abbrev pub AreOfTable : List EntryInformation → Type 0
AreOfTable entries = AllByRecursion (λ entry. AreInTable entry.attributes) entries
