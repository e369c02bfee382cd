-- What is written so far, and what is left.
use Rattle.std.proofs.Common.{◌≡◌, ◌++◌, drop, map}
use Rattle.std.specs.Prelude.{flat_map, string_bytes}
use Rattle.dir_tree.specs.tree.Numbered.{entries_of}
use Rattle.data_advice.specs.Noting.{place_of}
use Rattle.subtree_spec.specs.Subtrees.{subtree_of}
use Rattle.data_advice.specs.ItemNotes.{subtree_note}
use Rattle.data_advice.proofs.items.put_subtrees.Given as goal

abbrev pub invariant-loop-subtree : goal.invariant-loop-subtree
invariant-loop-subtree l =
    string_bytes l.out ++ flat_map (subtree_note (entries_of l.tree) (place_of l.spot)) (map subtree_of (drop l.subtree-index l.subtrees))
    ≡ string_bytes l.initial.out ++ flat_map (subtree_note (entries_of l.tree) (place_of l.spot)) (map subtree_of l.subtrees)
