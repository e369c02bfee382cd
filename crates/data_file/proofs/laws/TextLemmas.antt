-- The file that is written of loadable entries is one of writable entries.
use Rattle.std.proofs.Common.{◌≡◌, ◌≢◌, ℕ, ◌<◌, ◌==◌, false, List, [], ◌∷◌, ◌++◌, map, length, refl, arith}
use Rattle.std.specs.List.{AllByRecursion}
use Rattle.std.proofs.lemmas.Bool.{or_parts, true≢false}
use Rattle.base64.specs.GeneralPurpose.{IsBytes}
use Rattle.dir_tree.specs.schema_tables.Attributes.{IsAttrId, name_of}
use Rattle.dir_tree.specs.dn_names.name.Names.{Keyed}
use Rattle.dir_tree.specs.Entry.{Attribute, EntryInformation, values_of, IsGoodAttribute}
use Rattle.dir_tree.specs.EntryClasses.{object_class}
use Rattle.ldif_load.specs.ldif_records.writing.Written.{AreInTable}
use Rattle.ldif_load.specs.ldif_records.writing.WrittenFile.{TypeAndOctets, values_in, IsWritable}
use Rattle.aci_item.specs.Rules.{lists_none, breaks_classes}
use Rattle.data_file.specs.Loadable.{IsLoadableValue, IsLoadable}
use Rattle.data_file.proofs.laws.LineLemmas.{IsAttrId-from_loaded_value}
use Rattle.data_file.proofs.laws.OctetLemmas.{IsBytes-print_name}

-- the type and the octets of values
abbrev of_kind : ℕ → List Keyed → List TypeAndOctets
of_kind kind values = map (λ value. record { kind = name_of kind; value = value.octets }) values

-- an entry that lists a class has a value
some_value : (kind : ℕ) (values : List Keyed) (rest : List TypeAndOctets) → values ≢ [] → 0 < length (of_kind kind values ++ rest)
some_value kind [] rest filled = absurd (filled refl)
some_value kind (value ∷ values) rest filled = omega arith

values_in-filled :
    (attributes : List Attribute) → AllByRecursion IsGoodAttribute attributes
    → (length (values_of object_class attributes) == 0) ≡ false → 0 < length (values_in attributes)
values_in-filled [] good some = absurd (true≢false some)
values_in-filled (attribute ∷ attributes) good some = some_value attribute.kind attribute.values (values_in attributes) good.0.filled

lists_some : (entry : EntryInformation) → breaks_classes entry ≡ false → lists_none entry ≡ false
unfolding breaks_classes
lists_some entry unbroken =
    let besides_access = (or_parts _ _ unbroken).0 in
    let besides_unpermitted = (or_parts _ _ besides_access).0 in
    let besides_required = (or_parts _ _ besides_unpermitted).0 in
    let besides_lines = (or_parts _ _ besides_required).0 in
    let besides_structural = (or_parts _ _ besides_lines).0 in
    (or_parts _ _ besides_structural).0

-- the types of loadable values are in the table
in_table-first : (kind : ℕ) (values : List Keyed) → values ≢ [] → AllByRecursion (IsLoadableValue kind) values → IsAttrId kind
in_table-first kind [] filled loadable = absurd (filled refl)
in_table-first kind (value ∷ values) filled loadable =
    IsAttrId-from_loaded_value kind value.octets value loadable.0.value_read

AreInTable-loadable :
    (attributes : List Attribute) → AllByRecursion IsGoodAttribute attributes
    → AllByRecursion (λ (attribute : Attribute). AllByRecursion (IsLoadableValue attribute.kind) attribute.values) attributes
    → AreInTable attributes
AreInTable-loadable [] good loadable = tt
AreInTable-loadable (attribute ∷ attributes) good loadable =
    (in_table-first attribute.kind attribute.values good.0.filled loadable.0, AreInTable-loadable attributes good.1 loadable.1)

pub AreInTable-from_IsLoadable : (entry : EntryInformation) → IsLoadable entry → AreInTable entry.attributes
AreInTable-from_IsLoadable entry loadable = AreInTable-loadable entry.attributes loadable.good.good loadable.values

-- and their octets are octets
abbrev AreOctets : List TypeAndOctets → Type 0
AreOctets found = AllByRecursion (λ (one : TypeAndOctets). IsBytes one.value) found

octets-first :
    (kind : ℕ) (values : List Keyed) (rest : List TypeAndOctets) → AllByRecursion (IsLoadableValue kind) values
    → AreOctets rest → AreOctets (of_kind kind values ++ rest)
octets-first kind [] rest loadable later = later
octets-first kind (value ∷ values) rest loadable later = (loadable.0.octets, octets-first kind values rest loadable.1 later)

octets-values_in :
    (attributes : List Attribute)
    → AllByRecursion (λ (attribute : Attribute). AllByRecursion (IsLoadableValue attribute.kind) attribute.values) attributes
    → AreOctets (values_in attributes)
octets-values_in [] loadable = tt
octets-values_in (attribute ∷ attributes) loadable =
    octets-first attribute.kind attribute.values (values_in attributes) loadable.0 (octets-values_in attributes loadable.1)

-- so a loadable entry that meets the rules of classes is writable
pub IsWritable-loadable : (entry : EntryInformation) → IsLoadable entry → breaks_classes entry ≡ false → IsWritable entry
IsWritable-loadable entry loadable unbroken = record {
  filled = values_in-filled entry.attributes loadable.good.good (lists_some entry unbroken);
  in_table = AreInTable-from_IsLoadable entry loadable;
  name = IsBytes-print_name entry.name loadable.name;
  values = octets-values_in entry.attributes loadable.values;
}
