-- The subentries that apply to an entry as a program finds them: by their numbers.
use Rattle.std.specs.Prelude.{◌≡◌, ℕ, Bool, false, ◌&&◌, List, [], map, filter, Option, option_map}
use Rattle.std.specs.List.{AllByRecursion}
use Rattle.std.specs.Option.{option_and_then, option_map_or}
use Rattle.dir_tree.specs.Entry.{EntryInformation}
use Rattle.dir_tree.specs.tree.Numbered.{Numbered, entry_of, ids_of, subentry_rows}
use Rattle.dir_tree.specs.Scope.{is_child}
use Rattle.subtree_spec.specs.Subtrees.{Subtree, subtree_of}
use Rattle.admin_scope.specs.Refinements.{holds}
use Rattle.admin_scope.specs.InForce.{subtree_of_entry, subtree_holds}
use Rattle.admin_scope.specs.declared.subtrees.AccessSubentry.{AccessSubentry}

-- the entry of the number passes the test
abbrev pub stands : (EntryInformation → Bool) → ℕ → List Numbered → Bool
stands test id rows = option_map_or test (entry_of id rows) false

-- the subentry stands immediately below the point, and its subtree, read from the point on, holds the entry
abbrev pub holds_under : EntryInformation → EntryInformation → EntryInformation → Bool
holds_under point subentry entry = is_child point.name subentry && subtree_holds point subentry entry

-- those of the access control subentries of which that is so
abbrev pub applying : List Numbered → EntryInformation → EntryInformation → List ℕ
applying rows entry point = filter (λ id. stands (λ subentry. holds_under point subentry entry) id rows) (ids_of (subentry_rows rows))

-- those below the point of the number
abbrev pub numbers_at : List Numbered → EntryInformation → ℕ → List ℕ
numbers_at rows entry id = option_map_or (applying rows entry) (entry_of id rows) []

-- the subtree of the entry of the number
abbrev pub subtree_at : ℕ → List Numbered → Option Subtree
subtree_at id rows = option_and_then subtree_of_entry (entry_of id rows)

-- the subtree that was read, if there is one, holds the entry
abbrev pub holds_read : Option Subtree → EntryInformation → EntryInformation → Bool
holds_read subtree point entry = option_map_or (λ some. holds some point.name entry) subtree false

-- the numbers are those of all access control subentries, and each subtree is that of the number's entry
pub record AreSubtrees (list : List AccessSubentry) (rows : List Numbered) : Type 0 where
  pub numbers : map (λ one. one.number.0) list ≡ ids_of (subentry_rows rows)
  pub subtrees : AllByRecursion (λ one. option_map subtree_of one.subtree ≡ subtree_at one.number.0 rows) list

-- the same test by the subtree that was read
abbrev pub holds_by : List Numbered → EntryInformation → EntryInformation → AccessSubentry → Bool
holds_by rows entry point one =
    stands (λ subentry. is_child point.name subentry && holds_read (option_map subtree_of one.subtree) point entry) one.number.0 rows

-- the numbers of those that pass it
abbrev pub applying_by : List Numbered → EntryInformation → List AccessSubentry → EntryInformation → List ℕ
applying_by rows entry list point = map (λ one. one.number.0) (filter (holds_by rows entry point) list)

-- and those below the point of the number
abbrev pub numbers_by : List Numbered → EntryInformation → List AccessSubentry → ℕ → List ℕ
numbers_by rows entry list id = option_map_or (applying_by rows entry list) (entry_of id rows) []
