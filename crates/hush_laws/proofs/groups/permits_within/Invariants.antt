-- No group of the permissions so far is within, so those that are left decide.
use Rattle.std.proofs.Common.{◌≡◌, drop, map}
use Rattle.std.specs.Prelude.{flat_map}
use Rattle.std.specs.List.{list_any}
use Rattle.dir_tree.specs.dn_names.NameOrder.{is_prefix_of}
use Rattle.aci_item.specs.item.Views.{item_permission_of}
use Rattle.hush_laws.proofs.groups.permits_within.Given as goal

abbrev pub invariant-loop-permission : goal.invariant-loop-permission
invariant-loop-permission l =
    list_any (is_prefix_of l.top) (flat_map (λ permission. permission.classes.groups) (map item_permission_of (drop l.permission-index l.permissions)))
    ≡ list_any (is_prefix_of l.top) (flat_map (λ permission. permission.classes.groups) (map item_permission_of l.permissions))
