-- A tree as it is kept: the map from path keys to numbers, beside the slots. `octets` gives those of a key of the map.
use Rattle.std.specs.Prelude.{◌≡◌, ℕ, List, Option}
use Rattle.std.specs.List.{AllByRecursion, AllZip}
use Rattle.std.specs.Map.{values_of}
use Rattle.dn_names.specs.path.PathKeys.{path_key}
use Rattle.dir_tree.specs.Entry.{EntryInformation}
use Rattle.dir_tree.specs.tree.Numbered.{ids_of, subentry_rows}
use Rattle.dir_tree.specs.slots.Slots.{row_at, rows_of, IsKept}

-- each key is the path key of the entry of its number
abbrev pub AreKeyed : {K : Type 0} → (K → List ℕ) → List (Option EntryInformation) → List (K × ℕ) → Type 0
AreKeyed octets slots places = AllByRecursion (λ place. octets place.0 ≡ path_key (row_at slots place.1).entry.name) places

-- each key has the octets of the other's, and the same number
abbrev pub HasSamePlaces : {K : Type 0} → (K → List ℕ) → List (K × ℕ) → List (K × ℕ) → Type 0
HasSamePlaces octets old new = AllZip (λ one other. (octets other.0 ≡ octets one.0) × (other.1 ≡ one.1)) old new

-- the slots and the map are those of a tree, and the last numbers those of its access control subentries
pub record IsMapped {K : Type 0} (octets : K → List ℕ) (slots : List (Option EntryInformation)) (places : List (K × ℕ)) (subentries : List ℕ) : Type 0 where
  pub kept : IsKept slots (values_of places)
  pub keyed : AreKeyed octets slots places
  pub listed : subentries ≡ ids_of (subentry_rows (rows_of slots (values_of places)))
