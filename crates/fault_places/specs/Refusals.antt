-- What is said of a data file that is refused (RFC 2849): where in its first bad record the fault is. Nothing is said of one
-- that is loaded.
use Rattle.std.specs.Prelude.{ℕ, List, [], ◌∷◌, codes, Result, Ok, Err}
use Rattle.dir_tree.specs.Entry.{EntryInformation}
use Rattle.dir_tree.specs.tree.Trees.{put_in}
use Rattle.ldif_records.specs.declared.types.Record.{Record}
use Rattle.ldif_records.specs.reading.Faults.{LineFault}
use Rattle.ldif_records.specs.reading.Faults as reading
use Rattle.ldif_records.specs.lines.Places.{records_from, file_start}
use Rattle.ldif_load.specs.load.Loading.{RecordFault, entry_of_record, loaded_entry}
use Rattle.ldif_load.specs.load.Loading as loading
use Rattle.fault_places.specs.Saying.{said}
use Rattle.fault_places.specs.LineFaults.{form_said, record_line_fault}
use Rattle.fault_places.specs.EntryFaults.{entry_fault}

-- a line of no form that may stand there
abbrev pub bad_line_said : LineFault → List ℕ
bad_line_said (reading.Bad line cause) = said line (form_said cause)

-- a record that is not loaded: one of its lines, or the entry that it makes
abbrev pub bad_record_said : List EntryInformation → Record → Result EntryInformation RecordFault → RecordFault → List ℕ
bad_record_said entries given (Err fault) (loading.Bad line cause) = record_line_fault given line cause
bad_record_said entries given (Ok entry) (loading.Bad line cause) = entry_fault entries given entry cause

abbrev pub record_said : List EntryInformation → Record → RecordFault → List ℕ
record_said entries given fault = bad_record_said entries given (entry_of_record given) fault

-- one of two, as a record is loaded or not
abbrev pub by_record : (EntryInformation → List ℕ) → (RecordFault → List ℕ) → Result EntryInformation RecordFault → List ℕ
by_record next refused (Ok entry) = next entry
by_record next refused (Err fault) = refused fault

-- the first bad record of the further ones
unfoldable pub refused_after : List EntryInformation → List (Result Record LineFault) → List ℕ
refused_after entries [] = []
refused_after entries (Err bad ∷ rest) = bad_line_said bad
refused_after entries (Ok given ∷ rest) =
    by_record (λ entry. refused_after (put_in entry entries) rest) (record_said entries given) (loaded_entry entries given)

-- a file without a record
abbrev pub refused_records : List (Result Record LineFault) → List ℕ
refused_records [] = codes "why: no record, which begins with \"dn: name\"\n"
refused_records (first ∷ rest) = refused_after [] (first ∷ rest)

-- what is said of a file
unfoldable pub refusal_text : List ℕ → List ℕ
refusal_text text = refused_records (records_from text file_start)
