-- Tuples: an item split by its permissions, each into what it grants and what it denies (X.501 18.8.2).
use Rattle.std.specs.Prelude.{ℕ, Bool, true, false, List, [], ◌∷◌, filter, flat_map}
use Rattle.std.specs.Option.{unwrap_or}
use Rattle.aci_item.specs.declared.level.Level.{Level}
use Rattle.aci_item.specs.declared.permission.Permission.{Permission}
use Rattle.aci_item.specs.Permission.{Bit, permissions_of, has_some}
use Rattle.aci_item.specs.item.Items.{UserClasses, ProtectedItems, First, ItemFirst, UserFirst, Item}

-- users, how they must be authenticated, items, and the permissions that are granted or denied
pub record AciTuple : Type 0 where
  pub classes : UserClasses
  pub level : Level
  pub items : ProtectedItems
  pub permissions : List Permission
  pub grants : Bool
  pub precedence : ℕ

-- what bits grant, or what they deny
abbrev pub tuple_with : Level → ℕ → UserClasses → ProtectedItems → List Bit → Bool → AciTuple
tuple_with level precedence classes items bits grants = record {
  classes = classes;
  level = level;
  items = items;
  permissions = permissions_of grants bits;
  grants = grants;
  precedence = precedence;
}

-- what bits grant, and then what they deny
abbrev pub split : Level → ℕ → UserClasses → ProtectedItems → List Bit → List AciTuple
split level precedence classes items bits =
    tuple_with level precedence classes items bits true ∷ tuple_with level precedence classes items bits false ∷ []

-- each permission of an item in its order; a permission's own precedence stands in place of the item's
abbrev pub split_first : Level → ℕ → First → List AciTuple
split_first level precedence (ItemFirst items permissions) =
    flat_map (λ p. split level (unwrap_or p.precedence precedence) p.classes items p.bits) permissions
split_first level precedence (UserFirst classes permissions) =
    flat_map (λ p. split level (unwrap_or p.precedence precedence) classes p.items p.bits) permissions

-- those that have a permission
abbrev pub kept : List AciTuple → List AciTuple
kept tuples = filter (λ tuple. has_some tuple.permissions) tuples

-- the tuples of an item
unfoldable pub tuples_of_item : Item → List AciTuple
tuples_of_item item = kept (split_first item.level item.precedence item.first)
