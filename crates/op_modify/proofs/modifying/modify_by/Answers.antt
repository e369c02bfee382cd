-- What was checked is made.
use Rattle.std.proofs.lemmas.Result.{IfOk-weaker}
use Rattle.op_modify.proofs.modifying.modify_by.Goals as goal

pub returns-clause-ok : goal.returns-clause-ok
returns-clause-ok g c = IfOk-weaker c.make_revised.result _ _ (λ refusal made. made _ c.in_ok-checked.ensures.ok) c.make_revised.ensures.ok
