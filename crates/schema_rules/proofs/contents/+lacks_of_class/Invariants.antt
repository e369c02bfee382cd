-- A superclass has a smaller number.
use Rattle.schema_rules.proofs.contents.+lacks_of_class.Given as goal

abbrev pub decreases-lacks_of_class : goal.decreases-lacks_of_class
decreases-lacks_of_class l = l.class.0
