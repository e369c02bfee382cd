use Rattle.std.proofs.Common.{◌+◌, length}
use Rattle.std.proofs.lemmas.Result.{err_from_is_err_and}
use Rattle.ldif_records.specs.lines.Places.{records_from}
use Rattle.client_core.proofs.asking.AskLemmas.{fault-misread, fault-record, fault-same}
use Rattle.client_core.proofs.asking.ask_next.Goals as goal

-- the record asks for nothing
pub returns-in_err-push_ask-in-Ok-Some-clause-bad : goal.returns-in_err-push_ask-in-Ok-Some-clause-bad
returns-in_err-push_ask-in-Ok-Some-clause-bad c =
    let fault = err_from_is_err_and c.from_residual.result c.from_residual.ensures.1 in
    fault-same c.from_residual.result fault.0 c.in_err-push_ask-in-Ok-Some.field-0.0 _ fault.1 fault.2
    (fault-record c.in_err-push_ask-in-Ok-Some.field-0.0 (length c.args.asks.now.items + 1) c.args.text.now c.args.at c.in-Ok-Some.to c.in-Ok-Some.given
    (rw c.in-Ok-Some.field-0-is at c.in-Ok-Some.ensures.ok) c.in_err-push_ask-in-Ok-Some.ensures.bad)

-- a line of it is bad
pub returns-in-Err-clause-bad : goal.returns-in-Err-clause-bad
returns-in-Err-clause-bad c =
    rw c.misread.ensures.exact (fault-misread c.in-Err.bad (length c.args.asks.now.items + 1) (records_from c.args.text.now c.args.at) c.in-Err.ensures.bad)
