use Rattle.std.proofs.Common.{◌∙◌, sym, ap, Ok}
use Rattle.std.proofs.lemmas.Result.{err_from_is_err_and}
use Rattle.ldif_load.proofs.lines.LineLemmas.{fault-gives}
use Rattle.ldif_load.proofs.load.RecordLemmas.{same-ok, record-name, record-line, record-good}
use Rattle.ldif_load.proofs.load.entry_of_record.Goals as goal

-- the name is bad
pub returns-in_err-name : goal.returns-in_err-name
returns-in_err-name c =
    let fault = err_from_is_err_and c.from_residual.result c.from_residual.ensures.1 in
    record {
      exact = fault-gives c.from_residual.result fault.0 c.in_err-name.field-0.0 _ fault.1 fault.2
          (record-name c.in_err-name.field-0.0 c.args.given c.as_slice.result.now c.as_slice.ensures.exact c.in_err-name.ensures.exact);
    }

-- a line is bad
pub returns-in_err-add_lines : goal.returns-in_err-add_lines
returns-in_err-add_lines c =
    let fault = err_from_is_err_and c.from_residual-in_err-add_lines.result c.from_residual-in_err-add_lines.ensures.1 in
    record {
      exact = fault-gives c.from_residual-in_err-add_lines.result fault.0 c.in_err-add_lines.field-0.0 _ fault.1 fault.2
          (record-line c.in_err-add_lines.field-0.0 c.args.given c.as_slice.result.now c.in_ok-name.name c.in_ok-entry.entry c.into_vec.result.items
          c.as_slice.ensures.exact c.in_ok-name.ensures.exact (same-ok _ _ c.in_ok-entry.ensures.exact) c.into_vec.ensures.exact c.in_err-add_lines.ensures.bad);
    }

-- all is good
pub returns : goal.returns
returns c = record {
  exact = record-good c.args.given c.as_slice.result.now c.in_ok-name.name c.in_ok-entry.entry c.add_lines.new.entry c.into_vec.result.items
      c.as_slice.ensures.exact c.in_ok-name.ensures.exact (same-ok _ _ c.in_ok-entry.ensures.exact) c.into_vec.ensures.exact c.in_ok-add_lines.ensures.ok
      ∙ ap Ok (sym c.in_ok-add_own_values.ensures.ok);
}
