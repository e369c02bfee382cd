-- By the theorems.
use Rattle.dir_tree.proofs.TreeTheorems.{tree-put_in, tree-taken_out, tree-same_name, tree-moved}
use Rattle.dir_tree.proofs.laws.a_change_leaves_a_tree.Goals as goal

pub returns : goal.returns
returns c = record { put = tree-put_in; taken = tree-taken_out; same = tree-same_name; moved = tree-moved }
