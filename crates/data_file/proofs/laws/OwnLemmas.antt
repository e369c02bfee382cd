-- The record of a loadable entry gives the entry: its name, its attributes, and no value more.
use Rattle.std.proofs.Common.{◌≡◌, ◌≢◌, ℕ, ◌+◌, true, false, not, List, [], ◌∷◌, Result, Ok, refl, ap, ◌∙◌}
use Rattle.std.specs.List.{list_any}
use Rattle.std.proofs.lemmas.Bool.{or_parts, not-false}
use Rattle.dir_tree.specs.dn_names.name.Names.{TypeAndValue, RdnSequence, last_rdn}
use Rattle.dir_tree.specs.dn_names.parsing.NameText.{read_name}
use Rattle.dir_tree.specs.dn_names.Printing.{print_name}
use Rattle.dir_tree.proofs.dn_names_proofs.Theorems.{read_name-print_name}
use Rattle.dir_tree.specs.Entry.{EntryInformation, values_of, has_key}
use Rattle.ldif_load.specs.ldif_records.writing.WrittenFile.{values_in, lines_from, record_from}
use Rattle.aci_item.specs.Rules.{lacks_own_value}
use Rattle.ldif_load.specs.load.Loading.{RecordFault}
use Rattle.ldif_load.specs.load.Loading.{◌>>=◌, named, with_lines, with_pairs, with_own_values, entry_of_record}
use Rattle.data_file.specs.Loadable.{IsLoadable}
use Rattle.data_file.proofs.laws.LineLemmas.{with_lines-values_in}

-- pairs whose values are the entry's add nothing
with_pairs-own :
    (entry : EntryInformation) (pairs : List TypeAndValue)
    → list_any (λ (pair : TypeAndValue). not (has_key pair.value.key (values_of pair.kind entry.attributes))) pairs ≡ false
    → with_pairs entry pairs ≡ entry
unfolding with_pairs
with_pairs-own entry [] none = refl
with_pairs-own entry (pair ∷ pairs) none =
    let parts = or_parts (not (has_key pair.value.key (values_of pair.kind entry.attributes)))
    (list_any (λ (pair : TypeAndValue). not (has_key pair.value.key (values_of pair.kind entry.attributes))) pairs) none in
    let has : has_key pair.value.key (values_of pair.kind entry.attributes) ≡ true = not-false _ parts.0 in
    rw has (with_pairs-own entry pairs parts.1)

-- so an entry that has the values of its name stays
with_own_values-own : (entry : EntryInformation) → lacks_own_value entry ≡ false → with_own_values entry ≡ entry
unfolding lacks_own_value
with_own_values-own entry none = with_pairs-own entry (last_rdn entry.name) none

-- a name that isn't empty
named-filled : (line : ℕ) (name : RdnSequence) → name ≢ [] → named line (Ok name) ≡ Ok name
named-filled line [] filled = absurd (filled refl)
named-filled line (rdn ∷ rdns) filled = refl

-- the entry of the record that is written of it
pub entry_of_record-record_from :
    (number : ℕ) (entry : EntryInformation) → IsLoadable entry → entry.name ≢ [] → lacks_own_value entry ≡ false
    → entry_of_record (record_from number entry) ≡ Ok entry
unfolding entry_of_record
entry_of_record-record_from number entry loadable filled own =
    let lines = lines_from (number + 1) (values_in entry.attributes) in
    let name : named number (read_name (print_name entry.name)) ≡ Ok entry.name =
    ap (named number) (read_name-print_name entry.name loadable.name) ∙ named-filled number entry.name filled in
    ap (λ (found : Result RdnSequence RecordFault). found >>= λ name. with_lines (record { name = name; attributes = [] }) lines >>= λ entry. Ok (with_own_values entry)) name
    ∙ ap (λ (found : Result EntryInformation RecordFault). found >>= λ entry. Ok (with_own_values entry))
    (with_lines-values_in entry.name [] entry.attributes (number + 1) loadable.good.good loadable.good.distinct loadable.values)
    ∙ ap (λ (entry : EntryInformation). Ok entry) (with_own_values-own entry own)
