-- Values that are added leave attributes good, and pairs go one by one.
use Rattle.std.proofs.Common.{◌≡◌, ◌≢◌, ℕ, ◌+◌, Bool, true, false, not, List, [], ◌∷◌, drop, refl, ap, ◌∙◌}
use Rattle.std.specs.Prelude.{if◌then◌else◌}
use Rattle.dir_tree.specs.dn_names.name.Names.{Keyed, TypeAndValue}
use Rattle.dir_tree.specs.Entry.{EntryInformation, IsGoodAttributes}
use Rattle.dir_tree.specs.attributes.Changes.{with_value, without_value}
use Rattle.dir_tree.proofs.Theorems.{good-with_value}
use Rattle.entry_changes.specs.Change.{are_none, with_each}
use Rattle.entry_changes.specs.Renaming.{has_pair, gone_among, without_pairs}

-- values are there
pub filled_from : (values : List Keyed) → are_none values ≡ false → values ≢ []
filled_from [] e = absurd cc
filled_from (first ∷ rest) e = λ none. absurd cc

-- values that are added one after the other leave attributes good
pub good-with_each : (kind : ℕ) (values : List Keyed) (entry : EntryInformation) → IsGoodAttributes entry.attributes
    → IsGoodAttributes (with_each kind values entry).attributes
good-with_each kind [] entry good = good
good-with_each kind (value ∷ rest) entry good = good-with_each kind rest (with_value kind value entry) (good-with_value kind value entry good)

-- ---- pairs that go

-- one pair more, that stays or goes
pub pairs-step : (entry : EntryInformation) (old new : List TypeAndValue) (index : ℕ) (pair : TypeAndValue) → drop index old ≡ pair ∷ drop (index + 1) old
    → without_pairs entry (gone_among (drop index old) new)
    ≡ without_pairs (if has_pair pair new then entry else without_value pair.kind pair.value.key entry) (gone_among (drop (index + 1) old) new)
unfolding without_pairs
pairs-step entry old new index pair left = ap (λ pairs. without_pairs entry (gone_among pairs new)) left ∙ by (has_pair pair new)
  where
    by : (there : Bool) → without_pairs entry (if not there then pair ∷ gone_among (drop (index + 1) old) new else gone_among (drop (index + 1) old) new)
        ≡ without_pairs (if there then entry else without_value pair.kind pair.value.key entry) (gone_among (drop (index + 1) old) new)
    by true = refl
    by false = refl

pub pairs-done : (entry : EntryInformation) (old new : List TypeAndValue) → old ≡ [] → without_pairs entry (gone_among old new) ≡ entry
unfolding without_pairs
pairs-done entry old new none = ap (λ old. without_pairs entry (gone_among old new)) none
