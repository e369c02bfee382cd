-- Lemmas on loading: how it goes on with a record, where it is refused, and how it ends.
use Rattle.std.proofs.Common.{◌≡◌, ◌≢◌, ℕ, List, [], ◌∷◌, length, Result, Ok, Err, IfErr, refl, sym, ap, ◌∙◌, arith}
use Rattle.std.specs.Prelude.{if◌then◌else◌}
use Rattle.dir_tree.specs.Entry.{EntryInformation}
use Rattle.dir_tree.specs.tree.Trees.{put_in}
use Rattle.dir_tree.specs.tree.Numbered.{Numbered, entries_of}
use Rattle.dir_tree.proofs.TreeTheorems.{entries_of-put_row, put_in-some as put_in-filled}
use Rattle.ldif_load.specs.ldif_records.declared.types.Position.{Position}
use Rattle.ldif_load.specs.ldif_records.declared.types.Record.{Record}
use Rattle.ldif_load.specs.ldif_records.declared.types.BadLine.{BadLine}
use Rattle.ldif_load.specs.ldif_records.declared.types.BadLine.TheVariants as reading
use Rattle.ldif_load.specs.ldif_records.reading.Faults.{LineFault}
use Rattle.ldif_load.specs.ldif_records.reading.Faults as ldif
use Rattle.ldif_load.specs.ldif_records.reading.Records.{first_of}
use Rattle.ldif_load.specs.ldif_records.lines.Places.{records_from, IsNext}
use Rattle.ldif_load.specs.load.Loading.{◌>>=◌, loaded_entry, IsLoaded}
use Rattle.ldif_load.specs.load.DataFile.{FileFault, in_file, record_entry, loads_after, loads_records, loads, file_start}
use Rattle.ldif_load.proofs.Theorems.{ends_at_first as loads_after-line}
use Rattle.data_file.specs.declared.fault.DataFault.{DataFault}
use Rattle.data_file.specs.declared.fault.DataFault.TheVariants.{Bad, NoMemory}
use Rattle.wire_io.specs.plain_values.Answers.{IsFaultOf}
use Rattle.data_file.specs.Files.{fault_of, cause_of}
use Rattle.data_file.specs.Steps.{of_line, IsStep}

-- loading goes on after a record
loads_after-record : (old new : List Numbered) (given : Record) (rest : List (Result Record LineFault)) → IsLoaded old given new
    → loads_after (entries_of old) (Ok given ∷ rest) ≡ loads_after (entries_of new) rest
unfolding loads_after
loads_after-record old new given rest is =
    ap (λ found. in_file found >>= λ entry. loads_after (put_in entry (entries_of old)) rest) is.loaded
    ∙ ap (λ entries. loads_after entries rest) (sym (ap entries_of is.added ∙ entries_of-put_row (record { id = is.id; entry = is.entry }) old))

pub loads_after-step : (text : List ℕ) (from to : Position) (old new : List Numbered) → IsStep text from old to new
    → loads_after (entries_of old) (records_from text from) ≡ loads_after (entries_of new) (records_from text to)
loads_after-step text from to old new step =
    ap (λ records. loads_after (entries_of old) records) step.next.record_read ∙ loads_after-record old new step.given (records_from text to) step.loaded

-- it ends where there is no record
pub loads_after-end : (text : List ℕ) (from : Position) (rows : List Numbered) → records_from text from ≡ []
    → loads_after (entries_of rows) (records_from text from) ≡ Ok (entries_of rows)
unfolding loads_after
loads_after-end text from rows none = ap (λ records. loads_after (entries_of rows) records) none

-- a bad line is the fault of the file
pub fault-line : (text : List ℕ) (from : Position) (entries : List EntryInformation) (bad : BadLine) → IsFaultOf (ldif.fault_of bad) (first_of (records_from text from))
    → IsFaultOf (fault_of (of_line bad)) (loads_after entries (records_from text from))
fault-line text from entries (reading.Bad line cause) is = loads_after-line entries (records_from text from) (ldif.Bad line cause) is
fault-line text from entries reading.NoMemory is = tt

pub fault-record : (fault : DataFault) (text : List ℕ) (from to : Position) (entries : List EntryInformation) (given : Record) → IsNext text from given to
    → IsFaultOf (fault_of fault) (in_file (loaded_entry entries given)) → IsFaultOf (fault_of fault) (loads_after entries (records_from text from))
unfolding loads_after
fault-record (Bad line cause) text from to entries given next is =
    ap (λ records. loads_after entries records) next.record_read
    ∙ ap (λ found. found >>= λ entry. loads_after (put_in entry entries) (records_from text to)) is
fault-record NoMemory text from to entries given next is = tt

-- the fault that goes out is the one that came
pub fault-same : {T : Type 0} (out : Result T DataFault) (fault came : DataFault) (whole : Result (List EntryInformation) FileFault) → out ≡ Err fault → fault ≡ came
    → IsFaultOf (fault_of came) whole → IfErr out (λ bad. IsFaultOf (fault_of bad) whole)
fault-same out fault came whole is same says = rw is (rw same says)

-- where loading gives no entries, there were none before, and no record
given_none : (entries : List EntryInformation) (records : List (Result Record LineFault)) → loads_after entries records ≡ Ok [] → (entries ≡ []) × (records ≡ [])
unfolding loads_after
given_none entries [] is = (cc, refl)
given_none entries (first ∷ rest) is =
    elim (record_entry entries first) as (λ found. (found >>= λ entry. loads_after (put_in entry entries) rest) ≡ Ok [] → (entries ≡ []) × (first ∷ rest ≡ [])) [
      | Ok entry ↦ λ e. absurd (put_in-filled entry entries ((given_none (put_in entry entries) rest e).0))
      | Err fault ↦ λ e. absurd cc
    ] is

-- a file whose records give entries is loaded, and one whose records give none is refused at its first line
loads_records-some : (records : List (Result Record LineFault)) (entries : List EntryInformation) → entries ≢ [] → loads_after [] records ≡ Ok entries → loads_records records ≡ Ok entries
unfolding loads_after
loads_records-some [] entries some is = absurd (some cc)
loads_records-some (first ∷ rest) entries some is = is

pub loads-some : (text : List ℕ) (rows : List Numbered) → length rows ≢ 0 → loads_after [] (records_from text file_start) ≡ Ok (entries_of rows) → loads text ≡ Ok (entries_of rows)
unfolding loads
loads-some text [] some is = absurd (some refl)
loads-some text (row ∷ rows) some is = loads_records-some (records_from text file_start) (entries_of (row ∷ rows)) (λ none. cc) is

pub loads-none : (text : List ℕ) (rows : List Numbered) → length rows ≡ 0 → loads_after [] (records_from text file_start) ≡ Ok (entries_of rows) → loads text ≡ loads_records []
unfolding loads
loads-none text [] none is = ap loads_records ((given_none [] (records_from text file_start) is).1)
loads-none text (row ∷ rows) none is = absurd (omega arith)

-- the fault of the records is that of the file
pub fault-loads : (fault : DataFault) (text : List ℕ) → IsFaultOf (fault_of fault) (loads_after [] (records_from text file_start)) → IsFaultOf (fault_of fault) (loads text)
unfolding loads loads_after
fault-loads NoMemory text is = tt
fault-loads (Bad line cause) text is = by (records_from text file_start) is
  where
    by : (records : List (Result Record LineFault)) → loads_after [] records ≡ Err (record { line = line; cause = cause_of cause }) → loads_records records ≡ Err (record { line = line; cause = cause_of cause })
    by [] e = absurd cc
    by (first ∷ rest) e = e
