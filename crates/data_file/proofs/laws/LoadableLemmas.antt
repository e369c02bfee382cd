-- What is loaded of a record of octets is loadable: its name, the values of its lines, and those of its own RDN.
use Rattle.std.proofs.Common.{◌≡◌, ℕ, ◌==◌, Bool, true, false, if◌then◌else◌, List, [], ◌∷◌, ◌++◌, Option, Some, None, Result, Ok, Err, refl, subst}
use Rattle.std.specs.List.{AllByRecursion, IsDistinct}
use Rattle.std.proofs.lemmas.Bool.{eqb-true}
use Rattle.dir_tree.specs.schema_tables.Attributes.{attr_of}
use Rattle.dir_tree.specs.dn_names.declared.error.BadName.{BadName}
use Rattle.dir_tree.specs.dn_names.name.Names.{Keyed, TypeAndValue, RdnSequence, last_rdn}
use Rattle.dir_tree.specs.dn_names.name.GoodNames.{IsGoodName}
use Rattle.dir_tree.specs.dn_names.parsing.NameText.{read_name}
use Rattle.dir_tree.proofs.dn_names_proofs.Theorems.{IsGoodName-from_NameText, NameText-read_name}
use Rattle.dir_tree.specs.Entry.{Attribute, EntryInformation, values_of, has_key, IsGoodAttributes}
use Rattle.dir_tree.specs.attributes.Changes.{put_value, with_value}
use Rattle.dir_tree.proofs.Theorems.{good-with_value}
use Rattle.ldif_load.specs.ldif_records.declared.types.Record.{Record}
use Rattle.ldif_load.specs.ldif_records.declared.types.RecordLine.{RecordLine}
use Rattle.ldif_load.specs.load.Loading.{RecordFault}
use Rattle.ldif_load.specs.load.Loading.{◌>>=◌, named, loaded_value, with_new_value, with_new_kind, with_line, with_lines, with_pairs, with_own_values, entry_of_record}
use Rattle.data_file.specs.Loadable.{IsLoadableValue, IsLoadable}
use Rattle.data_file.proofs.laws.OctetLemmas.{IsBytes-from_AreBelow}
use Rattle.data_file.proofs.laws.ReadLemmas.{HasOctets}
use Rattle.data_file.proofs.laws.ValueLemmas.{IsLoadableValue-loaded, IsOwn, last_rdn-own}
use Rattle.dir_tree.proofs.plain_values_proofs.Theorems.{both_given}

-- the values of attributes are loadable
abbrev AreLoadable : List Attribute → Type 0
AreLoadable attributes = AllByRecursion (λ attribute. AllByRecursion (IsLoadableValue attribute.kind) attribute.values) attributes

one_more :
    (kind : ℕ) (value : Keyed) (values : List Keyed) → IsLoadableValue kind value → AllByRecursion (IsLoadableValue kind) values
    → AllByRecursion (IsLoadableValue kind) (values ++ value ∷ [])
one_more kind value [] is all = (is, tt)
one_more kind value (first ∷ values) is all = (all.0, one_more kind value values is all.1)

put_here :
    (mine : Bool) (kind : ℕ) (value : Keyed) (first : Attribute) (rest later : List Attribute) → (kind == first.kind) ≡ mine
    → IsLoadableValue kind value → AreLoadable (first ∷ rest) → AreLoadable later
    → AreLoadable (if mine then record first { values = first.values ++ value ∷ [] } ∷ rest else first ∷ later)
put_here true kind value first rest later same is all more =
    let kinds : kind ≡ first.kind = eqb-true kind first.kind same in
    (one_more first.kind value first.values (subst (λ (kind : ℕ). IsLoadableValue kind value) kinds is) all.0, all.1)
put_here false kind value first rest later same is all more = (all.0, more)

AreLoadable-put_value :
    (kind : ℕ) (value : Keyed) (attributes : List Attribute) → IsLoadableValue kind value → AreLoadable attributes
    → AreLoadable (put_value kind value attributes)
AreLoadable-put_value kind value [] is all = ((is, tt), tt)
AreLoadable-put_value kind value (first ∷ rest) is all =
    put_here (kind == first.kind) kind value first rest (put_value kind value rest) refl is all
    (AreLoadable-put_value kind value rest is all.1)

-- so an entry stays loadable with a loadable value
with_or_as_it_was :
    (there : Bool) (kind : ℕ) (value : Keyed) (entry : EntryInformation) → IsLoadableValue kind value → IsLoadable entry
    → IsGoodAttributes (if there then entry else record entry { attributes = put_value kind value entry.attributes }).attributes
    → IsLoadable (if there then entry else record entry { attributes = put_value kind value entry.attributes })
with_or_as_it_was true kind value entry is was good = was
with_or_as_it_was false kind value entry is was good = record {
  name = was.name;
  good = good;
  values = AreLoadable-put_value kind value entry.attributes is was.values;
}

IsLoadable-with_value :
    (kind : ℕ) (value : Keyed) (entry : EntryInformation) → IsLoadableValue kind value → IsLoadable entry
    → IsLoadable (with_value kind value entry)
IsLoadable-with_value kind value entry is was =
    with_or_as_it_was (has_key value.key (values_of kind entry.attributes)) kind value entry is was
    (good-with_value kind value entry was.good)

-- with the value of a line
IsLoadable-new_value :
    (entry more : EntryInformation) (line kind : ℕ) (found : Option Keyed)
    → ((value : Keyed) → found ≡ Some value → IsLoadableValue kind value) → IsLoadable entry
    → with_new_value entry line kind found ≡ Ok more → IsLoadable more
IsLoadable-new_value entry more line kind None values was is = absurd cc
IsLoadable-new_value entry more line kind (Some value) values was is = by (has_key value.key (values_of kind entry.attributes)) _ is
  where
    by :
        (there : Bool) (fault : RecordFault) → (if there then Err fault else Ok (with_value kind value entry)) ≡ Ok more
        → IsLoadable more
    by true fault made = absurd cc
    by false fault made = (
        let same : with_value kind value entry ≡ more = cc in
        subst IsLoadable same (IsLoadable-with_value kind value entry (values value refl) was)
        )

IsLoadable-new_kind :
    (entry more : EntryInformation) (line : RecordLine) (kind : Option ℕ) → HasOctets line → IsLoadable entry
    → with_new_kind entry line kind ≡ Ok more → IsLoadable more
IsLoadable-new_kind entry more line None octets was is = absurd cc
IsLoadable-new_kind entry more line (Some kind) octets was is =
    IsLoadable-new_value entry more line.line kind (loaded_value kind line.value)
    (λ value. IsLoadableValue-loaded kind line.value value (IsBytes-from_AreBelow line.value octets)) was is

IsLoadable-with_lines :
    (lines : List RecordLine) (entry more : EntryInformation) → AllByRecursion HasOctets lines → IsLoadable entry
    → with_lines entry lines ≡ Ok more → IsLoadable more
unfolding with_lines
IsLoadable-with_lines [] entry more octets was is = let same : entry ≡ more = cc in subst IsLoadable same was
IsLoadable-with_lines (line ∷ lines) entry more octets was is =
    let first = both_given (with_line entry line) (λ next. with_lines next lines) more is in
    IsLoadable-with_lines lines first.0 more octets.1
    (IsLoadable-new_kind entry first.0 line (attr_of line.kind) octets.0 was first.1) first.2

-- and with the values of its own RDN
IsLoadable-with_pairs :
    (pairs : List TypeAndValue) (entry : EntryInformation) → AllByRecursion IsOwn pairs → IsLoadable entry
    → IsLoadable (with_pairs entry pairs)
unfolding with_pairs
IsLoadable-with_pairs [] entry all was = was
IsLoadable-with_pairs (pair ∷ pairs) entry all was =
    IsLoadable-with_pairs pairs (with_value pair.kind pair.value entry) all.1 (IsLoadable-with_value pair.kind pair.value entry all.0 was)

-- the name of a record is a good one
named-read : (line : ℕ) (found : Result RdnSequence BadName) (name : RdnSequence) → named line found ≡ Ok name → found ≡ Ok name
named-read line (Ok []) name is = absurd cc
named-read line (Ok (rdn ∷ rdns)) name is = cc
named-read line (Err bad) name is = absurd cc

IsGoodName-read : (text : List ℕ) (name : RdnSequence) → read_name text ≡ Ok name → IsGoodName name
IsGoodName-read text name is = IsGoodName-from_NameText name text (NameText-read_name name text is)

-- an entry of a good name has no attribute that isn't loadable
IsLoadable-named : (name : RdnSequence) → IsGoodName name → IsLoadable (record { name = name; attributes = [] })
unfolding IsDistinct
IsLoadable-named name good = record { name = good; good = record { good = tt; distinct = tt }; values = tt }

-- so the entry of a record of octets is loadable
pub IsLoadable-entry_of_record :
    (given : Record) (entry : EntryInformation) → AllByRecursion HasOctets given.lines → entry_of_record given ≡ Ok entry
    → IsLoadable entry
unfolding entry_of_record
IsLoadable-entry_of_record given entry octets is =
    let name = both_given (named given.line (read_name given.name)) _ entry is in
    let lines = both_given (with_lines (record { name = name.0; attributes = [] }) given.lines) _ entry name.2 in
    let good : IsGoodName name.0 = IsGoodName-read given.name name.0 (named-read given.line (read_name given.name) name.0 name.1) in
    let more : IsLoadable lines.0 =
    IsLoadable-with_lines given.lines (record { name = name.0; attributes = [] }) lines.0 octets (IsLoadable-named name.0 good) lines.1 in
    let same : with_own_values lines.0 ≡ entry = cc lines.2 in
    subst IsLoadable same (IsLoadable-with_pairs (last_rdn lines.0.name) lines.0 (last_rdn-own lines.0.name more.name) more)
