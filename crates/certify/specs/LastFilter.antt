-- How far a tuple comes in a decision (X.501 18.8.2 to 18.8.4): the number of the last of the six filters that leaves it,
-- and 0 where the first one doesn't.
use Rattle.std.specs.Prelude.{ℕ, ◌==◌, Bool, not, ◌&&◌, List, map, filter, if◌then◌else◌}
use Rattle.std.specs.List.{list_any}
use Rattle.acdf_filters.specs.aci_item.AciTuples.{AciTuple}
use Rattle.acdf_filters.specs.Asking.{Asked}
use Rattle.acdf_filters.specs.users.Choices.{greatest, least}
use Rattle.acdf_filters.specs.Covering.{covers, is_explicit}
use Rattle.acdf_filters.specs.Filters.{Placed, stays, rank, permits, left_by_permission, left_by_precedence, left_by_class}

-- the last of the last three filters, where the fourth leaves those of this precedence, the fifth those of this class, and
-- the sixth, if `explicit`, those that name the item explicitly
abbrev pub last_of_three : Asked → ℕ → ℕ → Bool → AciTuple → List ℕ → ℕ
last_of_three asked precedence class explicit tuple ranks =
    if not (tuple.precedence == precedence) then 3
    else if not (rank tuple ranks == class) then 4
    else if explicit && not (is_explicit asked.who.name asked.item tuple.items) then 5
    else 6

-- the last of all
abbrev pub last_filter_by : Asked → ℕ → ℕ → Bool → AciTuple → List ℕ → ℕ
last_filter_by asked precedence class explicit tuple ranks =
    if not (stays asked.who.level tuple ranks) then 0
    else if not (covers asked.who.name asked.item tuple.items) then 1
    else if not (permits asked tuple) then 2
    else last_of_three asked precedence class explicit tuple ranks

-- the number of a tuple among those of an entry
unfoldable pub last_filter : Asked → List Placed → Placed → ℕ
last_filter asked xs x =
    last_filter_by asked
    (greatest (map (λ y. y.listed.tuple.precedence) (left_by_permission asked xs)))
    (least (map (λ y. rank y.listed.tuple y.ranks) (left_by_precedence asked xs)))
    (list_any (λ y. is_explicit asked.who.name asked.item y.listed.tuple.items) (left_by_class asked xs))
    x.listed.tuple x.ranks

-- the tuples of the last number
abbrev pub decisive_tuples : Asked → List Placed → List Placed
decisive_tuples asked xs = filter (λ x. last_filter asked xs x == 6) xs
