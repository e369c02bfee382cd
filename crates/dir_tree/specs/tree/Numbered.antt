-- A tree as a program knows it: its entries in their order, each with a number.
use Rattle.std.specs.Prelude.{◌≢◌, ℕ, ◌<◌, ◌==◌, nat_le, Bool, false, not, List, [], ◌∷◌, length, take, map, filter, find, if◌then◌else◌, Option, Some, None}
use Rattle.std.specs.Option.{option_map, option_map_or, option_and_then}
use Rattle.std.specs.List.{AllByRecursion, filter_map}
use Rattle.dn_names.specs.name.Names.{RdnSequence}
use Rattle.dir_tree.specs.Entry.{EntryInformation}
use Rattle.dir_tree.specs.Points.{is_access_subentry}
use Rattle.dir_tree.specs.tree.Trees.{most_entries, is_named, superior_name, is_before, IsTree}

-- an entry, and the number by which it is known
pub record Numbered : Type 0 where
  pub id : ℕ
  pub entry : EntryInformation

-- the numbers
abbrev pub ids_of : List Numbered → List ℕ
ids_of rows = map (λ row. row.id) rows

-- the entries, without their numbers
abbrev pub entries_of : List Numbered → List EntryInformation
entries_of rows = map (λ row. row.entry) rows

-- the number of the entry that has the name
abbrev pub find_name : RdnSequence → List Numbered → Option ℕ
find_name name rows = option_map (λ row. row.id) (find (λ row. is_named name row.entry) rows)

-- the number of the entry that the front of the name names, a front of so many RDNs
abbrev pub find_front : ℕ → RdnSequence → List Numbered → Option ℕ
find_front len name rows = if nat_le len (length name) then find_name (take len name) rows else None

-- the entry of the number
abbrev pub entry_of : ℕ → List Numbered → Option EntryInformation
entry_of id rows = option_map (λ row. row.entry) (find (λ row. row.id == id) rows)

-- whether the number is that of an entry that has the name
abbrev pub is_called : ℕ → RdnSequence → List Numbered → Bool
is_called id name rows = option_map_or (is_named name) (entry_of id rows) false

-- the entries of those of the numbers that are in use
abbrev pub entries_at : List Numbered → List ℕ → List EntryInformation
entries_at rows ids = filter_map (λ id. entry_of id rows) ids

-- the number of the first entry, the suffix
abbrev pub suffix_of : List Numbered → Option ℕ
suffix_of [] = None
suffix_of (row ∷ rows) = Some row.id

-- the number of the superior of the entry of the number
abbrev pub superior_of : ℕ → List Numbered → Option ℕ
superior_of id rows = option_and_then (λ entry. find_name (superior_name entry.name) rows) (entry_of id rows)

-- the row put before the first whose name does not come before its own
abbrev pub put_row : Numbered → List Numbered → List Numbered
put_row row [] = row ∷ []
put_row row (first ∷ rows) = if is_before first.entry.name row.entry.name then first ∷ put_row row rows else row ∷ first ∷ rows

-- the entry put in its place, with its number
abbrev pub put_entry : ℕ → EntryInformation → List Numbered → List Numbered
put_entry id entry rows = put_row (record { id = id; entry = entry }) rows

-- the rows of other numbers
abbrev pub without : ℕ → List Numbered → List Numbered
without id rows = filter (λ row. not (row.id == id)) rows

-- the rows of the access control subentries
abbrev pub subentry_rows : List Numbered → List Numbered
subentry_rows rows = filter (λ row. is_access_subentry row.entry) rows

-- each number is another than those after it
abbrev pub AreDistinct : List Numbered → Type 0
AreDistinct [] = Unit {0}
AreDistinct (row ∷ rows) = AllByRecursion (λ later. later.id ≢ row.id) rows × AreDistinct rows

-- a tree whose entries have numbers of their own
pub record IsNumberedTree (rows : List Numbered) : Type 0 where
  pub tree : IsTree (entries_of rows)
  pub distinct : AreDistinct rows
  pub numbers : AllByRecursion (λ row. row.id < most_entries) rows
