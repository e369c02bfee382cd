-- By the theorems.
use Rattle.dir_tree.proofs.TreeTheorems.{superior_of-suffix, superior_of-others, all_under_suffix}
use Rattle.dir_tree.proofs.laws.all_but_the_suffix_have_superiors.Goals as goal

pub returns : goal.returns
returns c = record { empty = superior_of-suffix; found = superior_of-others; whole = all_under_suffix }
