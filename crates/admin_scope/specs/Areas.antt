-- Administrative areas for access control (X.501 14.3 and 18.3): the points that govern an entry.
use Rattle.std.specs.Prelude.{Bool, not, ◌&&◌, ◌||◌, List, [], ◌∷◌, filter, reverse, Option, Some, None, option_map, unwrap_or, if◌then◌else◌}
use Rattle.std.specs.List.{list_any}
use Rattle.dir_tree.specs.dn_names.name.Names.{RdnSequence}
use Rattle.dir_tree.specs.dn_names.NameOrder.{is_prefix_of}
use Rattle.dir_tree.specs.Entry.{EntryInformation}
use Rattle.dir_tree.specs.Points.{is_specific_point, is_inner_point}
use Rattle.dir_tree.specs.Scope.{is_within}

-- the entries above the name and that of the name, from the root on
abbrev pub line_of : RdnSequence → List EntryInformation → List EntryInformation
line_of name entries = filter (λ entry. is_prefix_of entry.name name) entries

-- a point for access control, specific or inner; other roles have no effect
abbrev pub is_access_point : EntryInformation → Bool
is_access_point entry = is_specific_point entry || is_inner_point entry

-- the points from the name upwards
abbrev pub points_from : RdnSequence → List EntryInformation → List EntryInformation
points_from name entries = filter is_access_point (reverse (line_of name entries))

-- those up to the first specific one, which is the last of them; None where there is none
abbrev pub to_specific : List EntryInformation → Option (List EntryInformation)
to_specific [] = None
to_specific (point ∷ above) = if is_specific_point point then Some (point ∷ []) else option_map (λ points. point ∷ points) (to_specific above)

-- the points of an entry, from the entry itself upwards; X.501 leaves open what governs an entry that has no specific
-- point above it: here nothing does
unfoldable pub areas : List EntryInformation → EntryInformation → List EntryInformation
areas entries entry = unwrap_or (to_specific (points_from entry.name entries)) []

-- the entries that are neither at the name nor below it
abbrev pub without_subtree : RdnSequence → List EntryInformation → List EntryInformation
without_subtree top entries = filter (λ entry. not (is_within top entry)) entries

-- an entry at or below the name passes the test
abbrev pub has_within : (EntryInformation → Bool) → RdnSequence → List EntryInformation → Bool
has_within test top entries = list_any (λ entry. is_within top entry && test entry) entries
