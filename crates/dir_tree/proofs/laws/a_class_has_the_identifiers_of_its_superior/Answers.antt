use Rattle.dir_tree.proofs.classes.ClassLemmas.{oids_of-own}
use Rattle.dir_tree.proofs.laws.a_class_has_the_identifiers_of_its_superior.Goals as goal

pub returns : goal.returns
returns c = record { exact = oids_of-own }
