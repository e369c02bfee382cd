-- The entry of a record has the record's name, which isn't empty.
use Rattle.std.proofs.Common.{◌≡◌, ◌≢◌, ℕ, true, false, List, [], ◌∷◌, Option, Some, None, Result, Ok, Err, refl, sym, ap, ◌∙◌}
use Rattle.std.specs.Prelude.{if◌then◌else◌}
use Rattle.dir_tree.specs.schema_tables.Attributes.{attr_of}
use Rattle.dir_tree.specs.dn_names.declared.error.BadName.{BadName}
use Rattle.dir_tree.specs.dn_names.name.Names.{Keyed, TypeAndValue, RdnSequence, last_rdn}
use Rattle.dir_tree.specs.dn_names.parsing.NameText.{read_name}
use Rattle.dir_tree.specs.Entry.{EntryInformation, IsGoodAttributes, values_of, has_key}
use Rattle.dir_tree.specs.attributes.Changes.{with_value, put_value}
use Rattle.dir_tree.proofs.Theorems.{good-with_value}
use Rattle.ldif_records.specs.declared.types.Record.{Record}
use Rattle.ldif_records.specs.declared.types.RecordLine.{RecordLine}
use Rattle.ldif_load.specs.declared.fault.LoadCause.TheVariants.{Twice}
use Rattle.ldif_load.specs.load.Loading.{◌>>=◌, RecordFault, Bad, named, loaded_value, with_new_value, with_new_kind, with_line, with_lines, with_pairs, with_own_values, entry_of_record}

-- the first step gave something, and the second gave this of it
pub record BothGive {A B : Type 0} (first : Result A RecordFault) (next : A → Result B RecordFault) (value : B) : Type 0 where
  pub between : A
  pub before : first ≡ Ok between
  pub after : next between ≡ Ok value

pub both-give : {A B : Type 0} (first : Result A RecordFault) (next : A → Result B RecordFault) (value : B) → (first >>= next) ≡ Ok value → BothGive first next value
both-give (Ok between) next value gives = record { between = between; before = refl; after = gives }
both-give (Err fault) next value gives = absurd cc

pub name-with_value : (kind : ℕ) (value : Keyed) (entry : EntryInformation) → (with_value kind value entry).name ≡ entry.name
name-with_value kind value entry =
    elim (has_key value.key (values_of kind entry.attributes)) as (λ b. (if b then entry else record entry { attributes = put_value kind value entry.attributes }).name ≡ entry.name) [
      | true ↦ refl
      | false ↦ refl
    ]

name-with_new_value : (entry more : EntryInformation) (line kind : ℕ) (found : Option Keyed) → with_new_value entry line kind found ≡ Ok more → more.name ≡ entry.name
name-with_new_value entry more line kind None gives = absurd cc
name-with_new_value entry more line kind (Some value) gives =
    (elim (has_key value.key (values_of kind entry.attributes)) as (λ b. (if b then Err (Bad line Twice) else Ok (with_value kind value entry)) ≡ Ok more → more.name ≡ entry.name) [
      | true ↦ λ (e : Err (Bad line Twice) ≡ Ok more). absurd cc
      | false ↦ λ (e : Ok (with_value kind value entry) ≡ Ok more). let same : with_value kind value entry ≡ more = cc in ap (λ found. found.name) (sym same) ∙ name-with_value kind value entry
    ]) gives

name-with_new_kind : (entry more : EntryInformation) (line : RecordLine) (found : Option ℕ) → with_new_kind entry line found ≡ Ok more → more.name ≡ entry.name
name-with_new_kind entry more line None gives = absurd cc
name-with_new_kind entry more line (Some kind) gives = name-with_new_value entry more line.line kind (loaded_value kind line.value) gives

name-with_lines : (entry more : EntryInformation) (lines : List RecordLine) → with_lines entry lines ≡ Ok more → more.name ≡ entry.name
unfolding with_lines
name-with_lines entry more [] gives = let same : entry ≡ more = cc in ap (λ found. found.name) (sym same)
name-with_lines entry more (line ∷ lines) gives =
    let steps = both-give (with_line entry line) (λ next. with_lines next lines) more gives in
    name-with_lines steps.between more lines steps.after ∙ name-with_new_kind entry steps.between line (attr_of line.kind) steps.before

pub name-with_pairs : (entry : EntryInformation) (pairs : List TypeAndValue) → (with_pairs entry pairs).name ≡ entry.name
unfolding with_pairs
name-with_pairs entry [] = refl
name-with_pairs entry (pair ∷ pairs) = name-with_pairs (with_value pair.kind pair.value entry) pairs ∙ name-with_value pair.kind pair.value entry

-- and good attributes where it had some
pub good-with_pairs : (entry : EntryInformation) (pairs : List TypeAndValue) → IsGoodAttributes entry.attributes → IsGoodAttributes (with_pairs entry pairs).attributes
unfolding with_pairs
good-with_pairs entry [] good = good
good-with_pairs entry (pair ∷ pairs) good = good-with_pairs (with_value pair.kind pair.value entry) pairs (good-with_value pair.kind pair.value entry good)

named-some : (line : ℕ) (reading : Result RdnSequence BadName) (name : RdnSequence) → named line reading ≡ Ok name → name ≢ []
named-some line (Ok []) name gives = absurd cc
named-some line (Ok (rdn ∷ rdns)) name gives = λ (none : name ≡ []). cc
named-some line (Err bad) name gives = absurd cc

-- the entry of a record has a name
pub entry_of_record-named : (given : Record) (entry : EntryInformation) → entry_of_record given ≡ Ok entry → entry.name ≢ []
unfolding entry_of_record
entry_of_record-named given entry gives =
    let first = both-give (named given.line (read_name given.name)) (λ name. with_lines (record { name = name; attributes = [] }) given.lines >>= λ more. Ok (with_own_values more)) entry gives in
    let second = both-give (with_lines (record { name = first.between; attributes = [] }) given.lines) (λ more. Ok (with_own_values more)) entry first.after in
    let last : with_own_values second.between ≡ entry = let e = second.after in cc in
    let same : entry.name ≡ first.between =
    ap (λ found. found.name) (sym last)
    ∙ name-with_pairs second.between (last_rdn second.between.name)
    ∙ name-with_lines (record { name = first.between; attributes = [] }) second.between given.lines second.before in
    λ (none : entry.name ≡ []). named-some given.line (read_name given.name) first.between first.before (sym same ∙ none)
