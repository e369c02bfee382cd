-- What a data file of octets loads is a good tree.
use Rattle.std.proofs.Common.{◌≡◌, ◌≢◌, ℕ, Bool, true, false, if◌then◌else◌, List, [], ◌∷◌, Option, Some, None, Result, Ok, Err, refl, subst, ◌∙◌}
use Rattle.std.specs.List.{AllByRecursion}
use Rattle.base64.specs.GeneralPurpose.{IsBytes}
use Rattle.dir_tree.specs.Entry.{EntryInformation}
use Rattle.dir_tree.specs.tree.Trees.{has_name, lacks_superior, put_in}
use Rattle.dir_tree.proofs.TreeTheorems.{put_in-some}
use Rattle.ldif_load.specs.ldif_records.declared.types.Record.{Record}
use Rattle.ldif_load.specs.ldif_records.reading.Faults.{LineFault}
use Rattle.ldif_load.specs.ldif_records.lines.Places.{records_from}
use Rattle.aci_item.specs.declared.entry_rule.EntryRule.{EntryRule}
use Rattle.aci_item.specs.Rules.{broken_rule, AreGood, IsGoodTree}
use Rattle.ldif_load.proofs.schema_rules_proofs.Theorems.{AreGood-none, AreGood-put_in}
use Rattle.ldif_load.specs.load.Loading.{RecordFault}
use Rattle.ldif_load.specs.load.Loading.{entry_of_record, ruled, placed, loaded_entry}
use Rattle.ldif_load.specs.load.DataFile.{record_entry, loads_after, loads_records, file_start, loads}
use Rattle.ldif_load.proofs.Theorems.{entry_of_record-named}
use Rattle.data_file.proofs.laws.OctetLemmas.{AreBelow-from_IsBytes}
use Rattle.data_file.proofs.laws.ReadLemmas.{HasOctets, GivesOctets, GivesOctets-records_from}
use Rattle.data_file.proofs.laws.LoadableLemmas.{IsLoadable-entry_of_record}
use Rattle.data_file.proofs.laws.JoinLemmas.{placed-same, in_file-given}
use Rattle.dir_tree.proofs.plain_values_proofs.Theorems.{both_given}

-- an entry that is placed has a free name, a superior, and breaks no rule
record IsFree (entries : List EntryInformation) (entry : EntryInformation) : Type 0 where
  absent : has_name entry.name entries ≡ false
  under : lacks_superior entry.name entries ≡ false
  unbroken : broken_rule None entries entry ≡ None

ruled-unbroken : (line : ℕ) (entry made : EntryInformation) (broken : Option EntryRule) → ruled line entry broken ≡ Ok made → broken ≡ None
ruled-unbroken line entry made None is = refl
ruled-unbroken line entry made (Some rule) is = absurd cc

free_by :
    (entries : List EntryInformation) (line : ℕ) (entry made : EntryInformation) (there lacks : Bool) (one other : RecordFault)
    → has_name entry.name entries ≡ there → lacks_superior entry.name entries ≡ lacks
    → (if there then Err one else if lacks then Err other else ruled line entry (broken_rule None entries entry)) ≡ Ok made
    → IsFree entries entry
free_by entries line entry made true lacks one other has under is = absurd cc
free_by entries line entry made false true one other has under is = absurd cc
free_by entries line entry made false false one other has under is =
    record { absent = has; under = under; unbroken = ruled-unbroken line entry made (broken_rule None entries entry) is }

placed-free :
    (entries : List EntryInformation) (line : ℕ) (entry made : EntryInformation) → placed entries line entry ≡ Ok made
    → IsFree entries entry
unfolding placed
placed-free entries line entry made is =
    free_by entries line entry made (has_name entry.name entries) (lacks_superior entry.name entries) _ _ refl refl is

-- so good entries stay good with the entry of a record
good-loaded :
    (entries : List EntryInformation) (given : Record) (entry : EntryInformation) → AllByRecursion HasOctets given.lines
    → AreGood entries → loaded_entry entries given ≡ Ok entry → AreGood (put_in entry entries)
unfolding loaded_entry
good-loaded entries given entry octets good is =
    let made = both_given (entry_of_record given) (placed entries given.line) entry is in
    let same = placed-same entries given.line made.0 entry made.2 in
    let free = placed-free entries given.line made.0 entry made.2 in
    let loadable = IsLoadable-entry_of_record given made.0 octets made.1 in
    subst (λ (one : EntryInformation). AreGood (put_in one entries)) same
    (AreGood-put_in entries made.0 good (entry_of_record-named given made.0 made.1) loadable.name loadable.good free.absent
    free.under free.unbroken)

good-record_entry :
    (entries : List EntryInformation) (read : Result Record LineFault) (entry : EntryInformation) → GivesOctets read
    → AreGood entries → record_entry entries read ≡ Ok entry → AreGood (put_in entry entries)
good-record_entry entries (Ok given) entry octets good is =
    good-loaded entries given entry octets good (in_file-given (loaded_entry entries given) entry is)
good-record_entry entries (Err bad) entry octets good is = absurd cc

-- and with those of all records
good-loads_after :
    (records : List (Result Record LineFault)) (entries all : List EntryInformation) → AllByRecursion GivesOctets records
    → AreGood entries → loads_after entries records ≡ Ok all → AreGood all
unfolding loads_after
good-loads_after [] entries all octets good is =
    let same : entries ≡ all = cc in subst AreGood same good
good-loads_after (first ∷ rest) entries all octets good is =
    let step = both_given (record_entry entries first) (λ entry. loads_after (put_in entry entries) rest) all is in
    good-loads_after rest (put_in step.0 entries) all octets.1 (good-record_entry entries first step.0 octets.0 good step.1) step.2

some-loads_after :
    (records : List (Result Record LineFault)) (entries all : List EntryInformation) → entries ≢ []
    → loads_after entries records ≡ Ok all → all ≢ []
unfolding loads_after
some-loads_after [] entries all some is = let same : entries ≡ all = cc in subst (λ (found : List EntryInformation). found ≢ []) same some
some-loads_after (first ∷ rest) entries all some is =
    let step = both_given (record_entry entries first) (λ entry. loads_after (put_in entry entries) rest) all is in
    some-loads_after rest (put_in step.0 entries) all (put_in-some step.0 entries) step.2

some-loads_first :
    (first : Result Record LineFault) (rest : List (Result Record LineFault)) (all : List EntryInformation)
    → loads_after [] (first ∷ rest) ≡ Ok all → all ≢ []
unfolding loads_after
some-loads_first first rest all is =
    let step = both_given (record_entry [] first) (λ entry. loads_after (put_in entry []) rest) all is in
    some-loads_after rest (put_in step.0 []) all (put_in-some step.0 []) step.2

good-loads_records :
    (records : List (Result Record LineFault)) (all : List EntryInformation) → AllByRecursion GivesOctets records
    → loads_records records ≡ Ok all → IsGoodTree all
good-loads_records [] all octets is = absurd cc
good-loads_records (first ∷ rest) all octets is =
    record { some = some-loads_first first rest all is; good = good-loads_after (first ∷ rest) [] all octets AreGood-none is }

pub good-loads : (text : List ℕ) (entries : List EntryInformation) → IsBytes text → loads text ≡ Ok entries → IsGoodTree entries
unfolding loads
good-loads text entries bytes is =
    good-loads_records (records_from text file_start) entries
    (GivesOctets-records_from text file_start (AreBelow-from_IsBytes text bytes)) is
