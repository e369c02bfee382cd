-- The records that are written of a good tree's entries, loaded one after the other, give the entries.
use Rattle.std.proofs.Common.{◌≡◌, ◌≢◌, ℕ, ◌+◌, List, [], ◌∷◌, ◌++◌, length, None, Result, Ok, refl, sym, ap, subst, ◌∙◌}
use Rattle.std.specs.List.{AllByRecursion}
use Rattle.std.proofs.lemmas.List.{append_assoc, append-nil}
use Rattle.dir_tree.specs.Entry.{EntryInformation}
use Rattle.dir_tree.specs.tree.Trees.{put_in, IsInOrder, IsRooted}
use Rattle.ldif_load.specs.ldif_records.writing.WrittenFile.{values_in, IsWritable, record_from, entry_records, written_file}
use Rattle.ldif_load.proofs.ldif_records_proofs.Theorems.{file-reread}
use Rattle.aci_item.specs.Rules.{broken_rule, MeetsRules, IsGoodTree}
use Rattle.ldif_load.proofs.schema_rules_proofs.Theorems.{Meets-from_broken_rule}
use Rattle.ldif_load.specs.load.Loading.{RecordFault}
use Rattle.ldif_load.specs.load.Loading.{◌>>=◌, placed, loaded_entry}
use Rattle.ldif_load.specs.load.DataFile.{in_file, loads_after, loads_records, loads}
use Rattle.data_file.specs.Loadable.{IsLoadable}
use Rattle.data_file.proofs.laws.OrderLemmas.{before_place, put_in-last}
use Rattle.data_file.proofs.laws.OwnLemmas.{entry_of_record-record_from}
use Rattle.data_file.proofs.laws.PlaceLemmas.{placed-front}
use Rattle.data_file.proofs.laws.TextLemmas.{IsWritable-loadable}

-- the record of the entry after those of a front
loaded_entry-front :
    (front back : List EntryInformation) (number : ℕ) (entry : EntryInformation) → IsInOrder (front ++ entry ∷ back)
    → IsRooted (front ++ entry ∷ back) → entry.name ≢ [] → IsLoadable entry → broken_rule None (front ++ back) entry ≡ None
    → loaded_entry front (record_from number entry) ≡ Ok entry
unfolding loaded_entry
loaded_entry-front front back number entry sorted rooted filled loadable unbroken =
    let meets = Meets-from_broken_rule None (front ++ back) entry unbroken in
    ap (λ (found : Result EntryInformation RecordFault). found >>= placed front number)
    (entry_of_record-record_from number entry loadable filled meets.own_values)
    ∙ placed-front front back number entry sorted rooted filled unbroken

-- the records of the entries that are left
loads_after-front :
    (all front back : List EntryInformation) (number : ℕ) → all ≡ front ++ back → IsInOrder all → IsRooted all
    → MeetsRules all → AllByRecursion (λ (entry : EntryInformation). entry.name ≢ []) back → AllByRecursion IsLoadable back
    → loads_after front (entry_records number back) ≡ Ok all
unfolding loads_after
loads_after-front all front [] number is sorted rooted meets named loadable =
    ap (λ entries. Ok entries) (sym (append-nil front) ∙ sym is)
loads_after-front all front (entry ∷ back) number is sorted rooted meets named loadable =
    let place : IsInOrder (front ++ entry ∷ back) = subst IsInOrder is sorted in
    let next = number + 1 + 1 + length (values_in entry.attributes) in
    ap (λ (found : Result EntryInformation RecordFault). in_file found >>= λ entry. loads_after (put_in entry front) (entry_records next back))
    (loaded_entry-front front back (number + 1) entry place (subst IsRooted is rooted) named.0 loadable.0 (meets front back entry is))
    ∙ ap (λ entries. loads_after entries (entry_records next back)) (put_in-last entry front (before_place front back entry place))
    ∙ loads_after-front all (front ++ entry ∷ []) back next (is ∙ sym (append_assoc front (entry ∷ []) back)) sorted rooted meets named.1 loadable.1

-- each entry that is left may be written
writable-front :
    (all front back : List EntryInformation) → all ≡ front ++ back → MeetsRules all → AllByRecursion IsLoadable back
    → AllByRecursion IsWritable back
writable-front all front [] is meets loadable = tt
writable-front all front (entry ∷ back) is meets loadable =
    let unbroken = Meets-from_broken_rule None (front ++ back) entry (meets front back entry is) in (
      IsWritable-loadable entry loadable.0 unbroken.classes,
      writable-front all (front ++ entry ∷ []) back (is ∙ sym (append_assoc front (entry ∷ []) back)) meets loadable.1,
    )

-- so the file of a good tree gives its entries
pub loads-written_file :
    (entries : List EntryInformation) → IsGoodTree entries → AllByRecursion IsLoadable entries
    → loads (written_file entries) ≡ Ok entries
unfolding loads
loads-written_file [] tree loadable = absurd (tree.some refl)
loads-written_file (first ∷ rest) tree loadable =
    let entries = first ∷ rest in
    let good = tree.good in
    ap loads_records
    (file-reread entries (writable-front entries [] entries refl good.meets loadable))
    ∙ loads_after-front entries [] entries 2 refl good.tree.sorted good.tree.rooted good.meets good.tree.named loadable
