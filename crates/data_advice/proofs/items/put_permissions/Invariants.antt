-- What is written so far, and what is left.
use Rattle.std.proofs.Common.{◌≡◌, ◌++◌, drop, map}
use Rattle.std.specs.Prelude.{flat_map, string_bytes}
use Rattle.dir_tree.specs.tree.Numbered.{entries_of}
use Rattle.data_advice.specs.Noting.{place_of}
use Rattle.aci_item.specs.item.Views.{item_permission_of}
use Rattle.data_advice.specs.ItemNotes.{classes_note}
use Rattle.data_advice.proofs.items.put_permissions.Given as goal

abbrev pub invariant-loop-permission : goal.invariant-loop-permission
invariant-loop-permission l =
    string_bytes l.out ++ flat_map (classes_note (entries_of l.tree) (place_of l.spot)) (map (λ permission. permission.classes) (map item_permission_of (drop l.permission-index l.permissions)))
    ≡ string_bytes l.initial.out ++ flat_map (classes_note (entries_of l.tree) (place_of l.spot)) (map (λ permission. permission.classes) (map item_permission_of l.permissions))
