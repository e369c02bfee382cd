-- A superclass has a smaller number.
use Rattle.dir_tree.proofs.classes.+is_below.Given as goal

abbrev pub decreases-is_below : goal.decreases-is_below
decreases-is_below l = l.class.0
