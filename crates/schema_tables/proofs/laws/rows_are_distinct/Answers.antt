-- The checker computes each test over the tables.
use Rattle.schema_tables.proofs.laws.TableFacts.{names-are_distinct, names-are_keystrings, names-are_dotted}
use Rattle.schema_tables.proofs.laws.rows_are_distinct.Goals as goal

pub returns : goal.returns
returns c =
    record { only = names-are_distinct; keystrings = names-are_keystrings; dotted = names-are_dotted }
