-- A superclass has a smaller number.
use Rattle.fault_places.proofs.superclasses.+class_requires.Given as goal

abbrev pub decreases-class_requires : goal.decreases-class_requires
decreases-class_requires l = l.class.0
