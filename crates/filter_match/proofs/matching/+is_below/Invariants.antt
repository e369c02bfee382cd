-- A superclass has a smaller number.
use Rattle.filter_match.proofs.matching.+is_below.Given as goal

abbrev pub decreases-is_below : goal.decreases-is_below
decreases-is_below l = l.class.0
