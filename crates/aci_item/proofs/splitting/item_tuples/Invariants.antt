-- The tuples so far, and those of the permissions that are left, are those of all.
use Rattle.std.proofs.Common.{◌≡◌, ◌++◌, drop, map}
use Rattle.aci_item.specs.item.Items.{ItemFirst}
use Rattle.aci_item.specs.AciTuples.{kept, split_first}
use Rattle.aci_item.specs.item.Views.{items_of, item_permission_of, tuple_of}
use Rattle.aci_item.proofs.splitting.item_tuples.Given as goal

abbrev pub invariant-loop-permission : goal.invariant-loop-permission
invariant-loop-permission l =
    map tuple_of l.tuples.items ++ kept (split_first l.item.level l.item.precedence (ItemFirst (items_of l.items.value) (map item_permission_of (drop l.permission-index l.permissions))))
    ≡ kept (split_first l.item.level l.item.precedence (ItemFirst (items_of l.items.value) (map item_permission_of l.permissions)))
