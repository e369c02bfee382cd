use Rattle.std.proofs.lemmas.Result.{err_from_is_err_and}
use Rattle.ldif_records.proofs.reading.RecordLemmas.{fault-same}
use Rattle.ldif_records.proofs.reading.NextLemmas.{records-none, IsNext-read, first_of-bad, later-than}
use Rattle.ldif_records.proofs.reading.next_record.Goals as goal

-- no line is left
pub returns-in_default-clause-empty : goal.returns-in_default-clause-empty
returns-in_default-clause-empty c =
    records-none c.args.text.now c.args.from c.in_ok-line.at c.in_ok-line.line c.in_ok-line.ensures.exact c.in_ok-line.ensures.end c.in_default.is

-- a line of the record is bad
pub returns-in_err-record-clause-bad : goal.returns-in_err-record-clause-bad
returns-in_err-record-clause-bad c =
    let fault = err_from_is_err_and c.from_residual-in_err-record.result c.from_residual-in_err-record.ensures.1 in
    fault-same c.from_residual-in_err-record.result fault.0 c.in_err-record.field-0.0 _ fault.1 fault.2
    (first_of-bad c.args.text.now c.args.from c.in_ok-line.at c.in_ok-line.line c.in-Some.first _ c.in_ok-line.ensures.exact c.in-Some.is c.in_ok-line.ensures.filled c.in_err-record.ensures.bad)

-- all are good
pub returns-clause-ok : goal.returns-clause-ok
returns-clause-ok c =
    let later = later-than c.in_ok-line.line c.in-Some.first c.args.from.offset c.in_ok-line.at.offset c.in_ok-record.at.offset c.in-Some.is c.in_ok-line.ensures.later c.in_ok-record.ensures.after in
    IsNext-read c.args.text.now c.args.from c.in_ok-line.at c.in_ok-record.at c.in_ok-line.line c.in-Some.first c.in_ok-record.record
    c.in_ok-line.ensures.exact c.in-Some.is c.in_ok-line.ensures.filled c.in_ok-record.ensures.ok c.in_ok-record.ensures.rest later c.in_ok-record.ensures.place c.in_ok-line.ensures.passed c.in_ok-record.ensures.passed
