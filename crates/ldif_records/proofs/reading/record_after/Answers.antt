use Rattle.std.proofs.Common.{◌∙◌, ap}
use Rattle.std.proofs.lemmas.Result.{err_from_is_err_and}
use Rattle.ldif_records.specs.reading.Records.{attribute_lines}
use Rattle.ldif_records.specs.reading.Steps.{before_blank}
use Rattle.ldif_records.proofs.reading.RecordLemmas.{one-alone, record-good, record-fault_name, record-fault_line, fault-same, fault-of}
use Rattle.ldif_records.proofs.content.AfterLemmas.{after_both}
use Rattle.ldif_records.proofs.reading.record_after.Goals as goal

-- the first line is bad
pub returns-in_err-name-clause-bad : goal.returns-in_err-name-clause-bad
returns-in_err-name-clause-bad c =
    let fault = err_from_is_err_and c.from_residual-in_err-name.result c.from_residual-in_err-name.ensures.1 in
    let single = one-alone c.in_ok-line.line _ _ c.ends.result c.in_ok-line.ensures.lines c.in_ok-line.ensures.end c.ends.ensures in
    fault-same c.from_residual-in_err-name.result fault.0 c.in_err-name.field-0.0 _ fault.1 fault.2
    (record-fault_name c.args.first.now _ c.ends.result _ single c.in_err-name.ensures)

-- another line is bad
pub returns-in_err-lines-clause-bad : goal.returns-in_err-lines-clause-bad
returns-in_err-lines-clause-bad c =
    let fault = err_from_is_err_and c.from_residual-in_err-lines.result c.from_residual-in_err-lines.ensures.1 in
    let single = one-alone c.in_ok-line.line _ _ c.ends.result c.in_ok-line.ensures.lines c.in_ok-line.ensures.end c.ends.ensures in
    fault-same c.from_residual-in_err-lines.result fault.0 c.in_err-lines.field-0.0 _ fault.1 fault.2
    (record-fault_line c.args.first.now _ c.ends.result c.in_ok-name.name _ single c.in_ok-name.ensures
    (fault-of _ _ _ (ap (λ lines. attribute_lines (before_blank lines)) c.in_ok-line.ensures.lines) c.in_err-lines.ensures.bad))

-- all lines are good
pub returns-clause-ok : goal.returns-clause-ok
returns-clause-ok c =
    let single = one-alone c.in_ok-line.line _ _ c.ends.result c.in_ok-line.ensures.lines c.in_ok-line.ensures.end c.ends.ensures in
    rw c.number.ensures
    (record-good c.args.first.now _ c.ends.result c.in_ok-name.name c.in_ok-lines.lines single c.in_ok-name.ensures
    (ap (λ lines. attribute_lines (before_blank lines)) c.in_ok-line.ensures.lines ∙ c.in_ok-lines.ensures.ok))

-- the lines of the record were passed
pub returns-clause-passed : goal.returns-clause-passed
returns-clause-passed c = after_both c.args.text.now c.args.from c.in_ok-line.at c.in_ok-lines.at c.in_ok-line.ensures.passed c.in_ok-lines.ensures.passed
