-- Changes and renames leave good attributes, and the name that is wanted.
use Rattle.std.proofs.Common.{◌≡◌, ℕ, Bool, true, false, List, [], ◌∷◌, Option, Some, None, Result, refl, ◌∙◌}
use Rattle.std.specs.Prelude.{IfOk}
use Rattle.std.specs.List.{AllByRecursion, IsDistinct}
use Rattle.ldap_msg.specs.plain_values.Results.{◌>>=◌}
use Rattle.dir_tree.specs.dn_names.name.Names.{Keyed, TypeAndValue, RdnSequence, last_rdn}
use Rattle.dir_tree.specs.Entry.{EntryInformation, values_of, is_match, IsGoodAttributes}
use Rattle.dir_tree.specs.attributes.Changes.{with_value, without_value}
use Rattle.dir_tree.proofs.Theorems.{good-with_values, good-without_value, good-without_kind}
use Rattle.ldif_load.specs.load.Loading.{with_own_values}
use Rattle.ldif_load.proofs.Theorems.{name-with_pairs, name-with_value, good-with_pairs}
use Rattle.ldap_msg.specs.declared.operations.ResultCode.{ResultCode}
use Rattle.entry_changes.specs.declared.kind.ChangeKind.{ChangeKind}
use Rattle.entry_changes.specs.declared.kind.ChangeKind.TheVariants.{Add, Delete, Replace}
use Rattle.entry_changes.specs.Change.{Asker, Modification, asks_after, made, with_each, without_each, left_by, change_refusal, unless_refused, changed_by}
use Rattle.entry_changes.specs.Renaming.{gone_pairs, without_pairs, renamed_entry}
use Rattle.entry_changes.proofs.effects.EffectLemmas.{good-with_each}

-- ---- one change

good-without_each : (kind : ℕ) (values : List Keyed) (entry : EntryInformation) → IsGoodAttributes entry.attributes
    → IsGoodAttributes (without_each kind values entry).attributes
good-without_each kind [] entry good = good
good-without_each kind (value ∷ rest) entry good =
    good-without_each kind rest (without_value kind value.key entry) (good-without_value kind value.key entry good)

good-left_by : (change : ChangeKind) (kind : ℕ) (values : List Keyed) (entry : EntryInformation) → IsDistinct is_match values → IsGoodAttributes entry.attributes
    → IsGoodAttributes (left_by change kind values entry).attributes
good-left_by Add kind values entry distinct good = good-with_each kind values entry good
good-left_by Delete kind [] entry distinct good = good-without_kind kind entry good
good-left_by Delete kind (value ∷ rest) entry distinct good = good-without_each kind (value ∷ rest) entry good
good-left_by Replace kind [] entry distinct good = good-without_kind kind entry good
good-left_by Replace kind (value ∷ rest) entry distinct good = good-with_values kind (value ∷ rest) entry (λ none. absurd cc) distinct good

name-with_each : (kind : ℕ) (values : List Keyed) (entry : EntryInformation) → (with_each kind values entry).name ≡ entry.name
name-with_each kind [] entry = refl
name-with_each kind (value ∷ rest) entry = name-with_each kind rest (with_value kind value entry) ∙ name-with_value kind value entry

name-without_each : (kind : ℕ) (values : List Keyed) (entry : EntryInformation) → (without_each kind values entry).name ≡ entry.name
name-without_each kind [] entry = refl
name-without_each kind (value ∷ rest) entry = name-without_each kind rest (without_value kind value.key entry)

name-left_by : (change : ChangeKind) (kind : ℕ) (values : List Keyed) (entry : EntryInformation) → (left_by change kind values entry).name ≡ entry.name
name-left_by Add kind values entry = name-with_each kind values entry
name-left_by Delete kind [] entry = refl
name-left_by Delete kind (value ∷ rest) entry = name-without_each kind (value ∷ rest) entry
name-left_by Replace kind [] entry = refl
name-left_by Replace kind (value ∷ rest) entry = refl

-- ---- changes in their order

-- what holds after the next change holds, unless this one is refused
kept-step : (P : EntryInformation → Type 0) (refusal : Option ResultCode) (left : EntryInformation) (next : EntryInformation → Result EntryInformation ResultCode) → IfOk (next left) P
    → IfOk (unless_refused refusal left >>= next) P
kept-step P None left next holds = holds
kept-step P (Some refusal) left next holds = tt

pub good-changed_by : (asker : Asker) (entry : EntryInformation) (changes : List Modification) → AllByRecursion (λ change. IsDistinct is_match change.values) changes → IsGoodAttributes entry.attributes
    → IfOk (changed_by asker entry changes) (λ left. IsGoodAttributes left.attributes)
unfolding changed_by
good-changed_by asker entry [] distinct good = good
good-changed_by asker entry (change ∷ changes) distinct good =
    kept-step (λ left. IsGoodAttributes left.attributes) (change_refusal (asks_after asker (made change entry)) change (values_of change.kind entry.attributes))
    (left_by change.change change.kind change.values entry) (λ left. changed_by asker left changes)
    (good-changed_by asker (left_by change.change change.kind change.values entry) changes distinct.1 (good-left_by change.change change.kind change.values entry distinct.0 good))

named-changed_by : (asker : Asker) (entry : EntryInformation) (name : RdnSequence) (changes : List Modification) → entry.name ≡ name
    → IfOk (changed_by asker entry changes) (λ left. left.name ≡ name)
unfolding changed_by
named-changed_by asker entry name [] is = is
named-changed_by asker entry name (change ∷ changes) is =
    kept-step (λ left. left.name ≡ name) (change_refusal (asks_after asker (made change entry)) change (values_of change.kind entry.attributes))
    (left_by change.change change.kind change.values entry) (λ left. changed_by asker left changes)
    (named-changed_by asker (left_by change.change change.kind change.values entry) name changes (name-left_by change.change change.kind change.values entry ∙ is))

pub name-changed_by : (asker : Asker) (entry : EntryInformation) (changes : List Modification) → IfOk (changed_by asker entry changes) (λ left. left.name ≡ entry.name)
name-changed_by asker entry changes = named-changed_by asker entry entry.name changes refl

-- ---- renames

good-without_pairs : (entry : EntryInformation) (pairs : List TypeAndValue) → IsGoodAttributes entry.attributes → IsGoodAttributes (without_pairs entry pairs).attributes
unfolding without_pairs
good-without_pairs entry [] good = good
good-without_pairs entry (pair ∷ pairs) good =
    good-without_pairs (without_value pair.kind pair.value.key entry) pairs (good-without_value pair.kind pair.value.key entry good)

name-without_pairs : (entry : EntryInformation) (pairs : List TypeAndValue) → (without_pairs entry pairs).name ≡ entry.name
unfolding without_pairs
name-without_pairs entry [] = refl
name-without_pairs entry (pair ∷ pairs) = name-without_pairs (without_value pair.kind pair.value.key entry) pairs

pub good-renamed_entry : (name : RdnSequence) (delete_old : Bool) (entry : EntryInformation) → IsGoodAttributes entry.attributes
    → IsGoodAttributes (renamed_entry name delete_old entry).attributes
unfolding renamed_entry
good-renamed_entry name true entry good =
    good-without_pairs (with_own_values (record entry { name = name })) (gone_pairs entry.name name) (good-with_pairs (record entry { name = name }) (last_rdn name) good)
good-renamed_entry name false entry good = good-with_pairs (record entry { name = name }) (last_rdn name) good

pub name-renamed_entry : (name : RdnSequence) (delete_old : Bool) (entry : EntryInformation) → (renamed_entry name delete_old entry).name ≡ name
unfolding renamed_entry
name-renamed_entry name true entry =
    name-without_pairs (with_own_values (record entry { name = name })) (gone_pairs entry.name name) ∙ name-with_pairs (record entry { name = name }) (last_rdn name)
name-renamed_entry name false entry = name-with_pairs (record entry { name = name }) (last_rdn name)
