-- The items and tuples that the program holds, as plain values.
use Rattle.std.specs.Prelude.{map, string_bytes}
use Rattle.subtree_spec.specs.Subtrees.{subtree_of}
use Rattle.aci_item.specs.declared.classes.UserClasses as classes
use Rattle.aci_item.specs.declared.protected.MaxValueCount as max_value_count
use Rattle.aci_item.specs.declared.protected.RestrictedValue as restricted_value
use Rattle.aci_item.specs.declared.protected.ProtectedItems as protected
use Rattle.aci_item.specs.declared.item.ItemPermission as item_permission
use Rattle.aci_item.specs.declared.item.UserPermission as user_permission
use Rattle.aci_item.specs.declared.item.First as first
use Rattle.aci_item.specs.declared.item.First.TheVariants as code
use Rattle.aci_item.specs.declared.item.AciItem.{AciItem}
use Rattle.aci_item.specs.declared.splitting.AciTuple as tuples
use Rattle.aci_item.specs.Permission.{permissions_of}
use Rattle.aci_item.specs.AciTuples.{AciTuple}
use Rattle.aci_item.specs.item.Items.{UserClasses, MaxValueCount, RestrictedValue, ProtectedItems, ItemPermission, UserPermission, First, ItemFirst, UserFirst, Item}

-- user classes
abbrev pub classes_of : classes.UserClasses → UserClasses
classes_of classes = record {
  all = classes.all;
  this_entry = classes.this_entry;
  names = classes.names.items;
  groups = classes.groups.items;
  subtrees = map subtree_of classes.subtrees.items;
}

-- how many values a type may have
abbrev pub max_value_count_of : max_value_count.MaxValueCount → MaxValueCount
max_value_count_of limit = record { kind = limit.kind.0; max_count = limit.max_count }

-- the type whose values those of a type are among
abbrev pub restricted_value_of : restricted_value.RestrictedValue → RestrictedValue
restricted_value_of limit = record { kind = limit.kind.0; values_in = limit.values_in.0 }

-- protected items
abbrev pub items_of : protected.ProtectedItems → ProtectedItems
items_of items = record {
  entry = items.entry;
  all_kinds = items.all_kinds;
  kinds = map (λ kind. kind.0) items.kinds.items;
  all_values = map (λ kind. kind.0) items.all_values.items;
  all_kinds_and_values = items.all_kinds_and_values;
  values = items.values.items;
  self_values = map (λ kind. kind.0) items.self_values.items;
  max_counts = map max_value_count_of items.max_counts.items;
  restricted = map restricted_value_of items.restricted.items;
}

-- an item permission
abbrev pub item_permission_of : item_permission.ItemPermission → ItemPermission
item_permission_of permission = record {
  precedence = permission.precedence;
  classes = classes_of permission.classes.value;
  bits = permission.bits;
}

-- a user permission
abbrev pub user_permission_of : user_permission.UserPermission → UserPermission
user_permission_of permission = record {
  precedence = permission.precedence;
  items = items_of permission.items.value;
  bits = permission.bits;
}

-- what an item begins with
abbrev pub first_of : first.First → First
first_of (code.ItemFirst items permissions) = ItemFirst (items_of items.value) (map item_permission_of permissions.items)
first_of (code.UserFirst classes permissions) = UserFirst (classes_of classes.value) (map user_permission_of permissions.items)

-- an item
abbrev pub item_of_code : AciItem → Item
item_of_code item = record {
  tag = string_bytes item.tag;
  precedence = item.precedence;
  level = item.level;
  first = first_of item.first;
}

-- a tuple
abbrev pub tuple_of : tuples.AciTuple → AciTuple
tuple_of tuple = record {
  classes = classes_of tuple.classes.value;
  level = tuple.level;
  items = items_of tuple.items.value;
  permissions = permissions_of tuple.grants tuple.bits;
  grants = tuple.grants;
  precedence = tuple.precedence;
}
