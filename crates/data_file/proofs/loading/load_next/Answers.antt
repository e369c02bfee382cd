use Rattle.std.proofs.lemmas.Result.{err_from_is_err_and}
use Rattle.data_file.proofs.loading.LoadLemmas.{fault-line, fault-record, fault-same}
use Rattle.data_file.proofs.loading.load_next.Goals as goal

-- the record isn't loaded
pub returns-in_err-load_one-in-Ok-Some-clause-bad : goal.returns-in_err-load_one-in-Ok-Some-clause-bad
returns-in_err-load_one-in-Ok-Some-clause-bad c =
    let fault = err_from_is_err_and c.from_residual.result c.from_residual.ensures.1 in
    fault-same c.from_residual.result fault.0 c.in_err-load_one-in-Ok-Some.field-0.0 _ fault.1 fault.2
    (fault-record c.in_err-load_one-in-Ok-Some.field-0.0 c.args.text.now c.args.at c.in-Ok-Some.to _ c.in-Ok-Some.given (rw c.in-Ok-Some.field-0-is at c.in-Ok-Some.ensures.ok) c.in_err-load_one-in-Ok-Some.ensures.bad)

-- a line of it is bad
pub returns-in-Err-clause-bad : goal.returns-in-Err-clause-bad
returns-in-Err-clause-bad c =
    rw c.misread.ensures.exact (fault-line c.args.text.now c.args.at _ c.in-Err.bad c.in-Err.ensures.bad)
