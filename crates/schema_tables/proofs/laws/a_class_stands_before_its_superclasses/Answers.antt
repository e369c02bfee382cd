-- By the theorem.
use Rattle.schema_tables.proofs.Theorems.{with_superclasses-first}
use Rattle.schema_tables.proofs.laws.a_class_stands_before_its_superclasses.Goals as goal

pub returns : goal.returns
returns c = with_superclasses-first
