-- The members so far, each beside its printed text, and those that are left, are those of the set.
use Rattle.std.proofs.Common.{◌≡◌, [], drop, map}
use Rattle.gser_tree.specs.Tree.{shape_of}
use Rattle.gser_tree.specs.Writing.{text_of}
use Rattle.aci_item.specs.item.Views.{item_permission_of}
use Rattle.aci_item.specs.AciText.{item_permission}
use Rattle.aci_item.specs.ItemPrinted.{print_item_permission}
use Rattle.aci_item.specs.Sets.{put_member, gather_into}
use Rattle.aci_item.specs.members.Gathering.{ArePrinted, values_of}
use Rattle.aci_item.proofs.reading.item_permissions.Given as goal

abbrev pub invariant-loop-tree : goal.invariant-loop-tree
invariant-loop-tree l =
    ArePrinted item_permission_of print_item_permission l.seen.items
    × (gather_into (put_member (λ value. text_of (print_item_permission value))) item_permission (values_of item_permission_of l.seen.items) (map shape_of (drop l.tree-index l.trees)) l.bad.first
    ≡ gather_into (put_member (λ value. text_of (print_item_permission value))) item_permission [] (map shape_of l.trees) l.initial.bad.first)
