-- The parts between the dots are the numbers that the dots join.
use Rattle.schema_tables.proofs.Theorems.{IsDottedOid-from, is_dotted_oid-from}
use Rattle.schema_tables.proofs.laws.the_dotted_form_is_its_grammar.Goals as goal

pub returns : goal.returns
returns c = record { exact = λ text. (IsDottedOid-from text, is_dotted_oid-from text) }
