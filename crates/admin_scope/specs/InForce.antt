-- The access control subentries in force for an entry (X.501 18.3, RFC 3672 section 2).
use Rattle.std.specs.Prelude.{◌≡◌, ℕ, Bool, false, ◌&&◌, List, [], filter, flat_map, slice_get, Option, option_and_then, IsSome, if◌then◌else◌}
use Rattle.std.specs.List.{AllByRecursion}
use Rattle.std.specs.Option.{option_map_or}
use Rattle.std.specs.Result.{result_ok}
use Rattle.dir_tree.specs.Entry.{EntryInformation, values_of}
use Rattle.dir_tree.specs.Points.{is_subentry, is_access_subentry}
use Rattle.dir_tree.specs.Scope.{is_child}
use Rattle.dir_tree.specs.tree.Numbered.{Numbered, entry_of, entries_of, entries_at}
use Rattle.subtree_spec.specs.Subtrees.{Subtree}
use Rattle.subtree_spec.specs.SubtreeText.{read_subtree}
use Rattle.admin_scope.specs.Refinements.{holds}
use Rattle.admin_scope.specs.Areas.{areas}

-- the number of subtreeSpecification in the table of attribute types
abbrev pub subtree_specification : ℕ
subtree_specification = 30

-- the subtree that the first value of subtreeSpecification says; None where there is no value, or it says none
unfoldable pub subtree_of_entry : EntryInformation → Option Subtree
subtree_of_entry entry =
    option_and_then (λ value. result_ok (read_subtree value.octets)) (slice_get (values_of subtree_specification entry.attributes) 0)

-- the subtree of the subentry, read from the point on, holds the entry
unfoldable pub subtree_holds : EntryInformation → EntryInformation → EntryInformation → Bool
subtree_holds point subentry entry = option_map_or (λ subtree. holds subtree point.name entry) (subtree_of_entry subentry) false

-- an access control subentry whose subtree, read from the point on, holds the entry
abbrev pub applies : EntryInformation → EntryInformation → EntryInformation → Bool
applies point subentry entry = is_access_subentry subentry && subtree_holds point subentry entry

-- such a subentry immediately below the point
abbrev pub reaches : EntryInformation → EntryInformation → EntryInformation → Bool
reaches point subentry entry = is_child point.name subentry && applies point subentry entry

-- those under a point
abbrev pub in_force_at : EntryInformation → EntryInformation → List EntryInformation → List EntryInformation
in_force_at entry point entries = filter (λ subentry. reaches point subentry entry) entries

-- those in force for the entry, point by point upwards; none for a subentry
unfoldable pub in_force : List EntryInformation → EntryInformation → List EntryInformation
in_force entries entry = if is_subentry entry then [] else flat_map (λ point. in_force_at entry point entries) (areas entries entry)

-- the numbers are those of the access control subentries in force for the entry, which need not be in the tree
pub record AreInForce (rows : List Numbered) (entry : EntryInformation) (ids : List ℕ) : Type 0 where
  pub exact : entries_at rows ids ≡ in_force (entries_of rows) entry
  pub live : AllByRecursion (λ id. IsSome (entry_of id rows)) ids
