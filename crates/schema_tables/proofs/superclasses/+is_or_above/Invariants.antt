-- A superclass has a smaller number.
use Rattle.schema_tables.proofs.superclasses.+is_or_above.Given as goal

abbrev pub decreases-is_or_above : goal.decreases-is_or_above
decreases-is_or_above l = l.other.0
