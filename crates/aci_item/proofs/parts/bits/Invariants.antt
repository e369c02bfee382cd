-- The bits so far, and those that are left, are those of the set.
use Rattle.std.proofs.Common.{◌≡◌, [], drop, map}
use Rattle.gser_tree.specs.Tree.{shape_of}
use Rattle.aci_item.specs.Permission.{put_bit}
use Rattle.aci_item.specs.members.ItemParts.{bit}
use Rattle.aci_item.specs.Sets.{gather_into}
use Rattle.aci_item.proofs.parts.bits.Given as goal

abbrev pub invariant-loop-tree : goal.invariant-loop-tree
invariant-loop-tree l =
    gather_into put_bit bit l.seen (map shape_of (drop l.tree-index l.trees)) l.bad.first
    ≡ gather_into put_bit bit [] (map shape_of l.trees) l.bad.first
