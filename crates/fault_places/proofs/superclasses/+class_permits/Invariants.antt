-- A superclass has a smaller number.
use Rattle.fault_places.proofs.superclasses.+class_permits.Given as goal

abbrev pub decreases-class_permits : goal.decreases-class_permits
decreases-class_permits l = l.class.0
