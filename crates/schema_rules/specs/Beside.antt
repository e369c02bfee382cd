-- The entries beside the one whose place is taken, as the functions inside this crate see them.
use Rattle.std.specs.Prelude.{ℕ, Bool, false, not, ◌&&◌, ◌||◌, if◌then◌else◌, List, Option, None}
use Rattle.std.specs.Option.{option_map_or}
use Rattle.dir_tree.specs.Entry.{EntryInformation}
use Rattle.dir_tree.specs.Points.{is_point, is_subentry}
use Rattle.dir_tree.specs.tree.Numbered.{Numbered, entry_of}
use Rattle.dir_tree.specs.Scope.{is_number}

-- the entry of the number, unless it is the one whose place is taken
abbrev pub entry_beside : Option ℕ → List Numbered → ℕ → Option EntryInformation
entry_beside old rows id = if is_number id old then None else entry_of id rows

-- the entry may not stand immediately below the superior
abbrev pub stands_wrong_below : EntryInformation → EntryInformation → Bool
stands_wrong_below superior entry = is_subentry superior || is_subentry entry && not (is_point superior)

-- any entry may stand immediately below the entry
abbrev pub takes_all_below : EntryInformation → Bool
takes_all_below entry = is_point entry && not (is_subentry entry)

-- the entry of the number may not stand immediately below the entry
abbrev pub is_wrong_below : EntryInformation → List Numbered → ℕ → Bool
is_wrong_below entry rows id = option_map_or (stands_wrong_below entry) (entry_of id rows) false
