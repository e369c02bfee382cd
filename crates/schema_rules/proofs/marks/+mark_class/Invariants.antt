-- A superclass has a smaller number.
use Rattle.schema_rules.proofs.marks.+mark_class.Given as goal

abbrev pub decreases-mark_class : goal.decreases-mark_class
decreases-mark_class l = l.class.0
