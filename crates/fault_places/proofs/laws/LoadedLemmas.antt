-- Where each record is loaded, nothing is said.
use Rattle.std.proofs.Common.{◌≡◌, ℕ, List, [], ◌∷◌, Result, Ok, Err, refl}
use Rattle.dir_tree.specs.Entry.{EntryInformation}
use Rattle.dir_tree.specs.tree.Trees.{put_in}
use Rattle.ldif_records.specs.declared.types.Record.{Record}
use Rattle.ldif_records.specs.reading.Faults.{LineFault}
use Rattle.ldif_records.specs.lines.Places.{records_from, file_start}
use Rattle.ldif_load.specs.load.Loading.{◌>>=◌, loaded_entry}
use Rattle.ldif_load.specs.load.DataFile.{in_file, loads_after, loads_records, loads}
use Rattle.fault_places.specs.Refusals.{by_record, record_said, refused_after, refused_records, refusal_text}

after_loaded : (entries found : List EntryInformation) (records : List (Result Record LineFault)) → loads_after entries records ≡ Ok found
    → refused_after entries records ≡ []
unfolding loads_after refused_after
after_loaded entries found [] is = refl
after_loaded entries found (Err bad ∷ rest) is = absurd cc
after_loaded entries found (Ok given ∷ rest) is =
    elim (loaded_entry entries given) as (λ loaded. (in_file loaded >>= λ entry. loads_after (put_in entry entries) rest) ≡ Ok found
    → by_record (λ entry. refused_after (put_in entry entries) rest) (record_said entries given) loaded ≡ []) [
      | Ok entry ↦ λ later. after_loaded (put_in entry entries) found rest later
      | Err fault ↦ λ never. absurd cc
    ] is

records_loaded : (found : List EntryInformation) (records : List (Result Record LineFault)) → loads_records records ≡ Ok found → refused_records records ≡ []
records_loaded found [] is = absurd cc
records_loaded found (first ∷ rest) is = after_loaded [] found (first ∷ rest) is

pub nothing_said : (text : List ℕ) (found : List EntryInformation) → loads text ≡ Ok found → refusal_text text ≡ []
unfolding loads refusal_text
nothing_said text found is = records_loaded found (records_from text file_start) is
