-- The points of a name as a program finds them, from the name upwards: by the numbers of its fronts.
use Rattle.std.specs.Prelude.{ℕ, zero, suc, Bool, false, ◌||◌, List, [], ◌∷◌, length, Option, Some, None, if◌then◌else◌}
use Rattle.std.specs.Option.{option_map_or}
use Rattle.dir_tree.specs.dn_names.name.Names.{RdnSequence}
use Rattle.dir_tree.specs.Points.{is_specific_point, is_inner_point}
use Rattle.dir_tree.specs.tree.Numbered.{Numbered, find_front}
use Rattle.admin_scope.specs.Finding.{stands}

-- the points of a front, and those above it
abbrev pub with_front : List Numbered → Option ℕ → List ℕ → List ℕ
with_front rows None above = above
with_front rows (Some id) above =
    if stands is_specific_point id rows then id ∷ [] else if stands is_inner_point id rows then id ∷ above else above

-- the points of the fronts of at most so many RDNs, up to the first specific one or to the root
unfoldable pub points_up : ℕ → RdnSequence → List Numbered → List ℕ
points_up zero name rows = []
points_up (suc len) name rows = with_front rows (find_front (suc len) name rows) (points_up len name rows)

-- a front is a specific point
abbrev pub is_specific_front : ℕ → RdnSequence → List Numbered → Bool
is_specific_front len name rows = option_map_or (λ id. stands is_specific_point id rows) (find_front len name rows) false

-- one of the fronts of at most so many RDNs is a specific point
unfoldable pub has_specific : ℕ → RdnSequence → List Numbered → Bool
has_specific zero name rows = false
has_specific (suc len) name rows = is_specific_front (suc len) name rows || has_specific len name rows

-- how many RDNs of the name to begin with: none where no point is specific
abbrev pub first_front : RdnSequence → List Numbered → ℕ
first_front name rows = if has_specific (length name) name rows then length name else 0

-- all that are left at the beginning
abbrev pub walk_of : RdnSequence → List Numbered → List ℕ
walk_of name rows = points_up (first_front name rows) name rows
