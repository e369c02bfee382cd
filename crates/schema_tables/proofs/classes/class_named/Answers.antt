use Rattle.std.proofs.Common.{◌∙◌, sym}
use Rattle.schema_tables.proofs.classes.ClassLemmas.{position-rows, class_of_fits}
use Rattle.schema_tables.proofs.Theorems.{IsClassId-from_class_of}
use Rattle.schema_tables.proofs.classes.class_named.Goals as goal

-- no row was found
pub returns-in_err-index : goal.returns-in_err-index
returns-in_err-index c =
    record {
      exact =
          rw c.from_residual.ensures
          (c.in_err-index.ensures.exact ∙ position-rows c.rows.result.now c.args.octets.now c.rows.ensures.exact);
      fits = rw c.from_residual.ensures tt;
    }

-- the place of a row fits one octet
pub overflow_cast-result : goal.overflow_cast-result
overflow_cast-result c =
    class_of_fits c.args.octets.now c.in_ok-index.index
    (sym (c.in_ok-index.ensures.exact ∙ position-rows c.rows.result.now c.args.octets.now c.rows.ensures.exact))

-- a row was found
pub returns : goal.returns
returns c =
    let found = c.in_ok-index.ensures.exact ∙ position-rows c.rows.result.now c.args.octets.now c.rows.ensures.exact in
    record {
      exact = found;
      fits = IsClassId-from_class_of c.args.octets.now c.in_ok-index.index (sym found);
    }
