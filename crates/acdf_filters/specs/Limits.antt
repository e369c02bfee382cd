-- How maxValueCount and restrictedBy limit what a grant lets a requester add (X.501 18.4.2.4 and 18.8.3): X.501 takes away
-- grants alone by them, so a denial stays as it is.
use Rattle.std.specs.Prelude.{ℕ, ◌==◌, nat_lt, Bool, false, not, ◌&&◌, ◌||◌, length}
use Rattle.std.specs.List.{list_any}
use Rattle.dir_tree.specs.dn_names.name.Names.{Keyed}
use Rattle.dir_tree.specs.Entry.{EntryInformation, values_of, has_key}
use Rattle.aci_item.specs.declared.permission.Permission.{Permission}
use Rattle.aci_item.specs.declared.permission.Permission.TheVariants.{Add}
use Rattle.aci_item.specs.Permission.{is_same}
use Rattle.aci_item.specs.item.Items.{MaxValueCount, RestrictedValue, ProtectedItems}
use Rattle.aci_item.specs.AciTuples.{AciTuple}
use Rattle.acdf_filters.specs.Asking.{Protected, Entry, Kind, Value, Asked}

-- maxValueCount: the entry has more values of the type than the limit for it allows
abbrev pub is_past : ℕ → EntryInformation → MaxValueCount → Bool
is_past kind after limit = (kind == limit.kind) && nat_lt limit.max_count (length (values_of kind after.attributes))

-- restrictedBy: the type is restricted to the values of another, of which the entry has none that is equal to the value
abbrev pub is_outside : ℕ → Keyed → EntryInformation → RestrictedValue → Bool
is_outside kind value after limit =
    (kind == limit.kind) && not (has_key value.key (values_of limit.values_in after.attributes))

-- the value is beyond what the items allow, in the entry that has it
unfoldable pub exceeds : ProtectedItems → ℕ → Keyed → EntryInformation → Bool
exceeds items kind value after =
    list_any (is_past kind after) items.max_counts || list_any (is_outside kind value after) items.restricted

-- the tuple does not extend to the value: it grants, and the value is beyond what its items allow
abbrev pub bars : AciTuple → ℕ → Keyed → EntryInformation → Bool
bars tuple kind value after = tuple.grants && exceeds tuple.items kind value after

-- the tuple does not extend to what is asked for: only where a value is added
abbrev pub bars_item : Protected → Permission → EntryInformation → AciTuple → Bool
bars_item Entry permission after tuple = false
bars_item (Kind kind) permission after tuple = false
bars_item (Value kind value) permission after tuple = is_same permission Add && bars tuple kind value after

-- the same of a question
abbrev pub is_barred : Asked → AciTuple → Bool
is_barred asked tuple = bars_item asked.item asked.permission asked.after tuple
