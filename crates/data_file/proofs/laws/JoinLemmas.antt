-- Each entry of a data file of octets that loads is loadable.
use Rattle.std.proofs.Common.{◌≡◌, ℕ, Bool, true, false, if◌then◌else◌, List, [], ◌∷◌, Option, Some, None, Result, Ok, Err, subst}
use Rattle.std.specs.List.{AllByRecursion}
use Rattle.base64.specs.GeneralPurpose.{IsBytes}
use Rattle.dir_tree.specs.Entry.{EntryInformation}
use Rattle.dir_tree.specs.tree.Trees.{is_before, has_name, lacks_superior, put_in}
use Rattle.ldif_load.specs.ldif_records.declared.types.Record.{Record}
use Rattle.ldif_load.specs.ldif_records.reading.Faults.{LineFault}
use Rattle.ldif_load.specs.ldif_records.lines.Places.{records_from}
use Rattle.aci_item.specs.declared.entry_rule.EntryRule.{EntryRule}
use Rattle.aci_item.specs.Rules.{broken_rule}
use Rattle.ldif_load.specs.load.Loading.{RecordFault}
use Rattle.ldif_load.specs.load.Loading.{entry_of_record, ruled, placed, loaded_entry}
use Rattle.ldif_load.specs.load.DataFile.{in_file, record_entry, loads_after, loads_records, file_start, loads}
use Rattle.data_file.specs.Loadable.{IsLoadable}
use Rattle.data_file.proofs.laws.OctetLemmas.{AreBelow-from_IsBytes}
use Rattle.data_file.proofs.laws.ReadLemmas.{HasOctets, GivesOctets, GivesOctets-records_from}
use Rattle.data_file.proofs.laws.LoadableLemmas.{IsLoadable-entry_of_record}
use Rattle.dir_tree.proofs.plain_values_proofs.Theorems.{both_given}

-- an entry that is placed is as it was
pub ruled-same : (line : ℕ) (entry made : EntryInformation) (broken : Option EntryRule) → ruled line entry broken ≡ Ok made → entry ≡ made
ruled-same line entry made None is = cc
ruled-same line entry made (Some rule) is = absurd cc

unless_refused :
    (there lacks : Bool) (one other : RecordFault) (entry made : EntryInformation) (last : Result EntryInformation RecordFault)
    → (last ≡ Ok made → entry ≡ made) → (if there then Err one else if lacks then Err other else last) ≡ Ok made
    → entry ≡ made
unless_refused true lacks one other entry made last same is = absurd cc
unless_refused false true one other entry made last same is = absurd cc
unless_refused false false one other entry made last same is = same is

pub placed-same :
    (entries : List EntryInformation) (line : ℕ) (entry made : EntryInformation) → placed entries line entry ≡ Ok made
    → entry ≡ made
unfolding placed
placed-same entries line entry made is =
    unless_refused (has_name entry.name entries) (lacks_superior entry.name entries) _ _ entry made _
    (ruled-same line entry made (broken_rule None entries entry)) is

-- so the entry that a record of octets adds is loadable
IsLoadable-loaded :
    (entries : List EntryInformation) (given : Record) (entry : EntryInformation) → AllByRecursion HasOctets given.lines
    → loaded_entry entries given ≡ Ok entry → IsLoadable entry
unfolding loaded_entry
IsLoadable-loaded entries given entry octets is =
    let made = both_given (entry_of_record given) (placed entries given.line) entry is in
    subst IsLoadable (placed-same entries given.line made.0 entry made.2) (IsLoadable-entry_of_record given made.0 octets made.1)

pub in_file-given :
    (found : Result EntryInformation RecordFault) (entry : EntryInformation) → in_file found ≡ Ok entry → found ≡ Ok entry
in_file-given (Ok made) entry is = cc
in_file-given (Err fault) entry is = absurd cc

IsLoadable-record_entry :
    (entries : List EntryInformation) (read : Result Record LineFault) (entry : EntryInformation) → GivesOctets read
    → record_entry entries read ≡ Ok entry → IsLoadable entry
IsLoadable-record_entry entries (Ok given) entry octets is =
    IsLoadable-loaded entries given entry octets (in_file-given (loaded_entry entries given) entry is)
IsLoadable-record_entry entries (Err bad) entry octets is = absurd cc

-- entries with one more are loadable where it is
put_first :
    (before : Bool) (entry first : EntryInformation) (rest later : List EntryInformation) → IsLoadable entry
    → AllByRecursion IsLoadable (first ∷ rest) → AllByRecursion IsLoadable later
    → AllByRecursion IsLoadable (if before then first ∷ later else entry ∷ first ∷ rest)
put_first true entry first rest later is all more = (all.0, more)
put_first false entry first rest later is all more = (is, all)

loadable-put_in :
    (entry : EntryInformation) (entries : List EntryInformation) → IsLoadable entry → AllByRecursion IsLoadable entries
    → AllByRecursion IsLoadable (put_in entry entries)
loadable-put_in entry [] is all = (is, tt)
loadable-put_in entry (first ∷ rest) is all =
    put_first (is_before first.name entry.name) entry first rest (put_in entry rest) is all
    (loadable-put_in entry rest is all.1)

-- so all entries are
loadable-loads_after :
    (records : List (Result Record LineFault)) (entries all : List EntryInformation) → AllByRecursion GivesOctets records
    → AllByRecursion IsLoadable entries → loads_after entries records ≡ Ok all → AllByRecursion IsLoadable all
unfolding loads_after
loadable-loads_after [] entries all octets before is =
    let same : entries ≡ all = cc in subst (λ (found : List EntryInformation). AllByRecursion IsLoadable found) same before
loadable-loads_after (first ∷ rest) entries all octets before is =
    let step = both_given (record_entry entries first) (λ entry. loads_after (put_in entry entries) rest) all is in
    loadable-loads_after rest (put_in step.0 entries) all octets.1
    (loadable-put_in step.0 entries (IsLoadable-record_entry entries first step.0 octets.0 step.1) before) step.2

loadable-loads_records :
    (records : List (Result Record LineFault)) (all : List EntryInformation) → AllByRecursion GivesOctets records
    → loads_records records ≡ Ok all → AllByRecursion IsLoadable all
loadable-loads_records [] all octets is = absurd cc
loadable-loads_records (first ∷ rest) all octets is = loadable-loads_after (first ∷ rest) [] all octets tt is

pub loadable-loads :
    (text : List ℕ) (entries : List EntryInformation) → IsBytes text → loads text ≡ Ok entries → AllByRecursion IsLoadable entries
unfolding loads
loadable-loads text entries bytes is =
    loadable-loads_records (records_from text file_start) entries
    (GivesOctets-records_from text file_start (AreBelow-from_IsBytes text bytes)) is
