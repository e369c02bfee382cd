-- What a write changes of what a directory keeps (X.501 14.3 and 18.3).
use Rattle.std.specs.Prelude.{◌≡◌, ◌≢◌, ℕ, Bool, true, false, not, ◌&&◌, ◌||◌, if◌then◌else◌, List, Some}
use Rattle.std.specs.Option.{option_map_or}
use Rattle.dir_tree.specs.dn_names.NameOrder.{is_same}
use Rattle.dir_tree.specs.Entry.{EntryInformation}
use Rattle.dir_tree.specs.tree.Numbered.{Numbered, entry_of, is_called}
use Rattle.dir_tree.specs.Points.{is_specific_point, is_inner_point, is_access_subentry}
use Rattle.acdf_filters.specs.admin_scope.Areas.{is_access_point}
use Rattle.aci_lists.specs.declared.kept.Holdings.{Holdings}
use Rattle.aci_lists.specs.kept.Lists.{AreOf, lists_at}
use Rattle.aci_index.specs.declared.successor.Successor.{Successor}

-- both or neither
abbrev pub are_alike : Bool → Bool → Bool
are_alike one other = if one then other else not other

-- both are specific points or neither, and both are inner points or neither
abbrev pub has_same_roles : EntryInformation → EntryInformation → Bool
has_same_roles one other =
    are_alike (is_specific_point one) (is_specific_point other) && are_alike (is_inner_point one) (is_inner_point other)

-- the same as points for access control: neither is one, or both are with the same roles and the same name
abbrev pub is_same_point : EntryInformation → EntryInformation → Bool
is_same_point one other = has_same_roles one other && (not (is_access_point one) || is_same one.name other.name)

-- neither is an access control subentry
abbrev pub are_ordinary : EntryInformation → EntryInformation → Bool
are_ordinary one other = not (is_access_subentry one) && not (is_access_subentry other)

-- the one in place of the other changes no lists but its own
unfoldable pub is_own_change : EntryInformation → EntryInformation → Bool
is_own_change one other = are_ordinary one other && is_same_point one other

-- whether an entry in the place of that of the number changes no lists but its own; false where the number is not in use
abbrev pub changes_own : Successor → List Numbered → Bool
changes_own successor rows = option_map_or (λ old. is_own_change old successor.entry) (entry_of successor.number.0 rows) false

-- an entry that is known to keep the name of the entry of the number keeps it
abbrev pub KeepsName : Successor → List Numbered → Type 0
KeepsName successor rows = successor.keeps_name ≡ true → is_called successor.number.0 successor.entry.name rows ≡ true

-- where the number is in use, the lists of its entry are kept
abbrev pub IsKeptOf : ℕ → Holdings → List Numbered → Type 0
IsKeptOf number held rows =
    (entry : EntryInformation) → entry_of number rows ≡ Some entry → AreOf rows entry (lists_at held.lists.items number)

-- the subtrees and the lists stay
pub record AllStay (old new : Holdings) : Type 0 where
  pub subtrees : new.subtrees.items ≡ old.subtrees.items
  pub lists : (id : ℕ) → lists_at new.lists.items id ≡ lists_at old.lists.items id

-- the subtrees stay, and the lists of all other numbers
pub record OthersStay (number : ℕ) (old new : Holdings) : Type 0 where
  pub subtrees : new.subtrees.items ≡ old.subtrees.items
  pub lists : (id : ℕ) → id ≢ number → lists_at new.lists.items id ≡ lists_at old.lists.items id
