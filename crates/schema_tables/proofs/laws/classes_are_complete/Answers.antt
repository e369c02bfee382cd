-- The checker computes both tests over the table of classes.
use Rattle.schema_tables.proofs.laws.TableFacts.{classes-are_complete, classes-have_superiors}
use Rattle.schema_tables.proofs.laws.classes_are_complete.Goals as goal

pub returns : goal.returns
returns c = record { attributes = classes-are_complete; superiors = classes-have_superiors }
