-- What trees are (X.501 8.3 and 9.4): entries in the order of their names, each below its superior. The numbers by which
-- a program knows entries stand apart.
use Rattle.std.specs.Prelude.{◌≡◌, ◌≢◌, ℕ, ◌-◌, ◌≤◌, nat_lt, Bool, true, false, not, ◌&&◌, List, [], ◌∷◌, length, take, filter, find, if◌then◌else◌, Option}
use Rattle.std.specs.List.{AllByRecursion, list_any}
use Rattle.std.specs.Ordering.{is_lt}
use Rattle.std.specs.declared.cmp.Ordering.TheVariants.{Less}
use Rattle.dn_names.specs.name.Names.{RdnSequence}
use Rattle.dn_names.specs.NameOrder.{name_cmp, is_same, is_prefix_of}
use Rattle.dir_tree.specs.Entry.{EntryInformation}

-- how many entries a tree has at most
abbrev pub most_entries : ℕ
most_entries = 200000

-- whether the entry has the name
abbrev pub is_named : RdnSequence → EntryInformation → Bool
is_named name entry = is_same name entry.name

-- whether an entry has the name
abbrev pub has_name : RdnSequence → List EntryInformation → Bool
has_name name entries = list_any (is_named name) entries

-- the entry of the name
abbrev pub named_in : RdnSequence → List EntryInformation → Option EntryInformation
named_in name entries = find (is_named name) entries

-- the name of the superior: without its last RDN
abbrev pub superior_name : RdnSequence → RdnSequence
superior_name name = take (length name - 1) name

-- there are entries, and the superior of the name is none of them
abbrev pub lacks_superior : RdnSequence → List EntryInformation → Bool
lacks_superior name [] = false
lacks_superior name (first ∷ rest) = not (has_name (superior_name name) (first ∷ rest))

-- whether the second name is below the first
abbrev pub is_below : RdnSequence → RdnSequence → Bool
is_below base name = is_prefix_of base name && nat_lt (length base) (length name)

-- whether an entry stands below the name
abbrev pub has_below : RdnSequence → List EntryInformation → Bool
has_below name entries = list_any (λ entry. is_below name entry.name) entries

-- the first name comes before the second
abbrev pub is_before : RdnSequence → RdnSequence → Bool
is_before one other = is_lt (name_cmp one other)

-- the entry put before the first whose name does not come before its own
abbrev pub put_in : EntryInformation → List EntryInformation → List EntryInformation
put_in entry [] = entry ∷ []
put_in entry (first ∷ rest) = if is_before first.name entry.name then first ∷ put_in entry rest else entry ∷ first ∷ rest

-- the entries of other names
abbrev pub taken_out : RdnSequence → List EntryInformation → List EntryInformation
taken_out name entries = filter (λ entry. not (is_named name entry)) entries

-- each name comes before those after it
abbrev pub IsInOrder : List EntryInformation → Type 0
IsInOrder [] = Unit {0}
IsInOrder (first ∷ rest) = AllByRecursion (λ later. name_cmp first.name later.name ≡ Less) rest × IsInOrder rest

-- the first entry is the suffix, and the superior of each other one is among them
abbrev pub IsRooted : List EntryInformation → Type 0
IsRooted [] = Unit {0}
IsRooted (first ∷ rest) = AllByRecursion (λ later. has_name (superior_name later.name) (first ∷ rest) ≡ true) rest

-- a tree
pub record IsTree (entries : List EntryInformation) : Type 0 where
  pub sorted : IsInOrder entries
  pub rooted : IsRooted entries
  pub named : AllByRecursion (λ entry. entry.name ≢ []) entries
  pub fits : length entries ≤ most_entries
