-- How a tree is kept: entries in slots by their numbers, and the numbers in the order of the names.
use Rattle.std.specs.Prelude.{◌≡◌, ◌≢◌, ℕ, suc, ◌+◌, ◌/◌, ◌≤◌, ◌==◌, nat_lt, not, if◌then◌else◌, Bool, true, List, [], ◌∷◌, length, map, filter, insert, Option, Some, None, is_some, get_or}
use Rattle.std.specs.List.{AllByRecursion, list_any}
use Rattle.dn_names.specs.name.Names.{RdnSequence}
use Rattle.dir_tree.specs.Entry.{EntryInformation}
use Rattle.dir_tree.specs.Points.{is_access_subentry}
use Rattle.dir_tree.specs.declared.number.EntryNo.{EntryNo}
use Rattle.dir_tree.specs.tree.Trees.{most_entries, is_before, has_name, superior_name, IsInOrder}
use Rattle.dir_tree.specs.slots.Places.{place_of}
use Rattle.dir_tree.specs.tree.Numbered.{Numbered, entries_of}

-- the slot of the number
abbrev pub slot_of : List (Option EntryInformation) → ℕ → Option EntryInformation
slot_of slots id = get_or slots id None

-- the entry in a slot; of an empty slot one without a name
abbrev pub entry_in : Option EntryInformation → EntryInformation
entry_in None = record { name = []; attributes = [] }
entry_in (Some entry) = entry

-- the row of the number
abbrev pub row_at : List (Option EntryInformation) → ℕ → Numbered
row_at slots id = record { id = id; entry = entry_in (slot_of slots id) }

-- the rows in order
abbrev pub rows_of : List (Option EntryInformation) → List ℕ → List Numbered
rows_of slots order = map (row_at slots) order

-- whether the number is among the numbers
abbrev pub has_id : ℕ → List ℕ → Bool
has_id id order = list_any (λ other. other == id) order

-- how many slots are full
abbrev pub count_full : List (Option EntryInformation) → ℕ
count_full [] = 0
count_full (None ∷ slots) = count_full slots
count_full (Some entry ∷ slots) = suc (count_full slots)

-- each number's slot has what it had
abbrev pub HasSameSlots : List (Option EntryInformation) → List (Option EntryInformation) → Type 0
HasSameSlots old new = (id : ℕ) → slot_of new id ≡ slot_of old id

-- how many slots there is room for, once there is room for one more: where there was none, an eighth more
abbrev pub with_room : ℕ → ℕ → ℕ
with_room len capacity = if nat_lt len capacity then capacity else len + len / 8 + 1

-- whether an entry's name comes before the name
abbrev pub has_before : RdnSequence → List EntryInformation → Bool
has_before name entries = list_any (λ entry. is_before entry.name name) entries

-- of each name that is there and is not the first the superior is there too
abbrev pub HasSuperiors : List EntryInformation → Type 0
HasSuperiors entries =
    (name : RdnSequence) → has_name name entries ≡ true → has_before name entries ≡ true → has_name (superior_name name) entries ≡ true

-- the entries of a tree, but for their number
pub record IsOrderedTree (entries : List EntryInformation) : Type 0 where
  pub sorted : IsInOrder entries
  pub named : AllByRecursion (λ entry. entry.name ≢ []) entries
  pub rooted : HasSuperiors entries

-- the slots and the numbers are those of a tree
pub record IsKept (slots : List (Option EntryInformation)) (order : List ℕ) : Type 0 where
  pub within : length slots ≤ most_entries
  pub used : (id : ℕ) → has_id id order ≡ is_some (slot_of slots id)
  pub count : count_full slots ≡ length order
  pub ordered : IsOrderedTree (entries_of (rows_of slots order))

-- the numbers as naturals
abbrev pub numbers_in : List EntryNo → List ℕ
numbers_in numbers = map (λ no. no.0) numbers

-- how many of the entries of the numbers come before the name
abbrev pub place_among : RdnSequence → List (Option EntryInformation) → List ℕ → ℕ
place_among name slots numbers = place_of name (rows_of slots numbers)

-- the numbers with that of an access control subentry in its place
abbrev pub listed_in : List (Option EntryInformation) → EntryInformation → ℕ → List ℕ → List ℕ
listed_in slots entry id numbers = if is_access_subentry entry then insert numbers (place_among entry.name slots numbers) id else numbers

-- the numbers without one
abbrev pub unlisted : ℕ → List ℕ → List ℕ
unlisted id numbers = filter (λ other. not (other == id)) numbers
