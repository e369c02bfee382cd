-- A class stands after its superior in the table.
use Rattle.schema_tables.proofs.classes.ClassLemmas.{superior_of_row_below}
use Rattle.schema_tables.proofs.classes.superior.Goals as goal

pub returns-clause-fits : goal.returns-clause-fits
returns-clause-fits c =
    superior_of_row_below c.in_ok-row_at.field-0 c.args.class.0 c.in_ok-row_at.ensures.exact
