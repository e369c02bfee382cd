-- The subtrees so far hold the name no, so those that are left decide.
use Rattle.std.proofs.Common.{◌≡◌, map, drop}
use Rattle.aci_item.specs.subtree_spec.Subtrees.{subtree_of}
use Rattle.acdf_filters.specs.users.Users.{is_held}
use Rattle.acdf_filters.proofs.users.is_in_subtrees.Given as goal

abbrev pub invariant-loop-subtree : goal.invariant-loop-subtree
invariant-loop-subtree l =
    is_held l.name (map subtree_of (drop l.subtree-index l.subtrees)) ≡ is_held l.name (map subtree_of l.subtrees)
