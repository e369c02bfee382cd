use Rattle.std.proofs.Common.{◌∙◌, ap, sym, Ok}
use Rattle.std.proofs.lemmas.Result.{err_from_is_err_and}
use Rattle.script_text.proofs.laws.LawLemmas.{script_of-ok, bad_line}
use Rattle.script_text.proofs.script.OrderlyLemmas.{script_of-orderly}
use Rattle.script_text.proofs.script.read_script.Goals as goal

-- the fault is that of the reading
pub returns-in_err-read-clause-bad : goal.returns-in_err-read-clause-bad
returns-in_err-read-clause-bad c =
    let fault = err_from_is_err_and c.from_residual.result c.from_residual.ensures.1 in
    λ line is. bad_line c.args.text.now line c.from_residual.result fault.0 c.in_err-read.field-0.0 fault.1 fault.2 c.in_err-read.ensures is

-- the events are those of the reading
pub returns-clause-ok : goal.returns-clause-ok
returns-clause-ok c = script_of-ok c.args.text.now c.into_events.result (c.in_ok-read.ensures ∙ ap Ok (sym c.into_events.ensures))

pub returns-clause-fits : goal.returns-clause-fits
returns-clause-fits c =
    let orderly = script_of-orderly c.args.text.now c.into_events.result (c.in_ok-read.ensures ∙ ap Ok (sym c.into_events.ensures)) in
    (orderly.once, orderly.filled)
