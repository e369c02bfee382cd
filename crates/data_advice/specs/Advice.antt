-- What is noted of the entries of a good data file: things that a server answers to without a word, and that an operator
-- may not have meant.
use Rattle.std.specs.Prelude.{ℕ, ◌==◌, Bool, List, [], ◌++◌, length, filter, flat_map, codes, decimal, if◌then◌else◌}
use Rattle.std.specs.List.{list_any}
use Rattle.dir_tree.specs.Entry.{EntryInformation}
use Rattle.dir_tree.specs.Points.{is_specific_point}
use Rattle.admin_scope.specs.Areas.{areas}
use Rattle.data_advice.specs.EntryNotes.{entry_note}

-- no administrative point governs the entry (X.501 14.3)
abbrev pub is_outside : List EntryInformation → EntryInformation → Bool
is_outside entries entry = length (areas entries entry) == 0

-- entries that stand in no administrative area
abbrev pub outside_note : ℕ → List ℕ
outside_note count = if count == 0 then [] else codes "note: entries in no administrative area, which nobody may find: " ++ (decimal count ++ codes "\n")

-- no entry is a specific point
abbrev pub no_point_note : List ℕ
no_point_note = codes "note: no entry is an access control specific point (administrativeRole): nobody may do anything\n"

-- the points of a tree
abbrev pub points_note : List EntryInformation → List ℕ
points_note entries =
    if list_any is_specific_point entries then outside_note (length (filter (is_outside entries) entries))
    else no_point_note

-- all notes, those of the entries in their order
unfoldable pub advice_text : List EntryInformation → List ℕ
advice_text entries = points_note entries ++ flat_map (entry_note entries) entries
