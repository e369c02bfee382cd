-- How the next record of a file is met: it is loaded, refused, misread, or there is none.
use Rattle.std.specs.Prelude.{◌≡◌, ℕ, List, [], Err}
use Rattle.dir_tree.specs.Entry.{EntryInformation}
use Rattle.dir_tree.specs.tree.Numbered.{Numbered, entries_of}
use Rattle.ldif_records.specs.declared.types.Position.{Position}
use Rattle.ldif_records.specs.declared.types.Record.{Record}
use Rattle.ldif_records.specs.reading.Faults as reading
use Rattle.ldif_records.specs.reading.Records.{first_of}
use Rattle.ldif_records.specs.lines.Places.{IsNext, records_from}
use Rattle.ldif_load.specs.declared.fault.LoadCause.{LoadCause}
use Rattle.ldif_load.specs.load.Loading.{loaded_entry, IsLoaded}
use Rattle.ldif_load.specs.load.Loading as loading
use Rattle.fault_places.specs.declared.refusal.Met.{Met}
use Rattle.fault_places.specs.declared.refusal.Met.TheVariants.{Loaded, Refused, Misread, Ended}

-- the first record from the place on may not join the entries, for the cause at the line
pub record IsRefused (text : List ℕ) (from : Position) (entries : List EntryInformation) (line : ℕ) (cause : LoadCause) : Type 0 where
  pub given : Record
  pub to : Position
  pub next : IsNext text from given to
  pub refused : loaded_entry entries given ≡ Err (loading.Bad line cause)

-- the first record from the one place on was loaded, and the other place stands after it
pub record IsTaken (text : List ℕ) (from : Position) (old new : List Numbered) (to : Position) : Type 0 where
  pub given : Record
  pub next : IsNext text from given to
  pub loaded : IsLoaded old given new

-- so it was met
abbrev pub IsMet : List ℕ → Position → List Numbered → List Numbered → Met → Type 0
IsMet text from old new (Loaded to) = IsTaken text from old new to
IsMet text from old new (Refused line cause) = IsRefused text from (entries_of old) line cause × (new ≡ old)
IsMet text from old new (Misread line cause) = first_of (records_from text from) ≡ Err (reading.Bad line cause)
IsMet text from old new Ended = records_from text from ≡ []
