-- The members so far, each beside its printed text, and those that are left, are those of the set.
use Rattle.std.proofs.Common.{◌≡◌, [], drop, map}
use Rattle.gser_tree.specs.Tree.{shape_of}
use Rattle.gser_tree.specs.Writing.{text_of}
use Rattle.aci_item.specs.item.Views.{restricted_value_of}
use Rattle.aci_item.specs.members.Limits.{restricted_value}
use Rattle.aci_item.specs.ItemPrinted.{print_restricted_value}
use Rattle.aci_item.specs.Sets.{put_member, gather_into}
use Rattle.aci_item.specs.members.Gathering.{ArePrinted, values_of}
use Rattle.aci_item.proofs.limits.restricted_values_of.Given as goal

abbrev pub invariant-loop-tree : goal.invariant-loop-tree
invariant-loop-tree l =
    ArePrinted restricted_value_of print_restricted_value l.seen.items
    × (gather_into (put_member (λ value. text_of (print_restricted_value value))) restricted_value (values_of restricted_value_of l.seen.items) (map shape_of (drop l.tree-index l.trees)) l.bad.first
    ≡ gather_into (put_member (λ value. text_of (print_restricted_value value))) restricted_value [] (map shape_of l.trees) l.initial.bad.first)
