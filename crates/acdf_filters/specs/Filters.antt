-- The six filters of the access control decision function (X.501 18.8.2 to 18.8.4), each over the tuples that those
-- before it leave, and the decision.
use Rattle.std.specs.Prelude.{ℕ, Bool, not, ◌&&◌, ◌||◌, nat_lt, List, filter, if◌then◌else◌}
use Rattle.std.specs.List.{list_any, list_all}
use Rattle.aci_item.specs.declared.level.Level.{Level}
use Rattle.aci_item.specs.declared.permission.Permission.{Permission}
use Rattle.aci_item.specs.Level.{rank_of}
use Rattle.aci_item.specs.Permission.{is_same}
use Rattle.aci_item.specs.AciTuples.{AciTuple}
use Rattle.acdf_filters.specs.Asking.{Asked}
use Rattle.acdf_filters.specs.Tuples.{Listed}
use Rattle.acdf_filters.specs.users.Users.{listed_ranks}
use Rattle.acdf_filters.specs.Covering.{covers, is_explicit}
use Rattle.acdf_filters.specs.Limits.{is_barred}
use Rattle.acdf_filters.specs.users.Choices.{least, highest, lowest, passing_or_all, is_filled}

-- a tuple, with the ranks of its classes in which the requester is
pub record Placed : Type 0 where
  pub listed : Listed
  pub ranks : List ℕ

-- the tuple asks for a level above the requester's
abbrev pub asks_above : Level → AciTuple → Bool
asks_above level tuple = nat_lt (rank_of level) (rank_of tuple.level)

-- a grant stays where the requester is in one of its classes and it asks for no level above; a denial where the
-- requester is in one of them or it does
abbrev pub stays : Level → AciTuple → List ℕ → Bool
stays level tuple ranks =
    if tuple.grants then is_filled ranks && not (asks_above level tuple) else is_filled ranks || asks_above level tuple

-- the rank of a tuple: that of the most specific of its classes in which the requester is. X.501 leaves open which it is
-- for a denial that stays by its level alone: here the most specific class that it lists, or else allUsers
abbrev pub rank : AciTuple → List ℕ → ℕ
rank tuple ranks = least (if is_filled ranks then ranks else listed_ranks tuple.classes)

-- the tuple has the permission
abbrev pub has_permission : Permission → AciTuple → Bool
has_permission permission tuple = list_any (is_same permission) tuple.permissions

-- the tuple has the permission that is asked for, and extends to what is added
abbrev pub permits : Asked → AciTuple → Bool
permits asked tuple = has_permission asked.permission tuple && not (is_barred asked tuple)

-- 1: those that stay
abbrev pub left_by_users : Asked → List Placed → List Placed
left_by_users asked xs = filter (λ x. stays asked.who.level x.listed.tuple x.ranks) xs

-- 2: those that cover the item
abbrev pub left_by_item : Asked → List Placed → List Placed
left_by_item asked xs = filter (λ x. covers asked.who.name asked.item x.listed.tuple.items) (left_by_users asked xs)

-- 3: those that have the permission, and extend to what is added
abbrev pub left_by_permission : Asked → List Placed → List Placed
left_by_permission asked xs = filter (λ x. permits asked x.listed.tuple) (left_by_item asked xs)

-- 4: those of the highest precedence
abbrev pub left_by_precedence : Asked → List Placed → List Placed
left_by_precedence asked xs = highest (λ x. x.listed.tuple.precedence) (left_by_permission asked xs)

-- 5: those of the most specific user class
abbrev pub left_by_class : Asked → List Placed → List Placed
left_by_class asked xs = lowest (λ x. rank x.listed.tuple x.ranks) (left_by_precedence asked xs)

-- 6: those that name the item explicitly, if any does
abbrev pub left_by_explicit : Asked → List Placed → List Placed
left_by_explicit asked xs = passing_or_all (λ x. is_explicit asked.who.name asked.item x.listed.tuple.items) (left_by_class asked xs)

-- access is granted where at least one is left and all that are left grant
unfoldable pub decided : Asked → List Placed → Bool
decided asked xs = is_filled (left_by_explicit asked xs) && list_all (λ x. x.listed.tuple.grants) (left_by_explicit asked xs)
