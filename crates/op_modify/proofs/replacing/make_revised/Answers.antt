-- The change is refused, or the entry is in its place.
use Rattle.op_modify.proofs.modifying.ChangeLemmas.{made-refused, made-allowed}
use Rattle.op_modify.proofs.replacing.make_revised.Goals as goal

pub returns-in-Refused-clause-ok : goal.returns-in-Refused-clause-ok
returns-in-Refused-clause-ok g c = λ changed is. made-refused changed _ _ _ c.in-Refused.is is

pub returns-in_ok-revise-in-Allowed-clause-ok : goal.returns-in_ok-revise-in-Allowed-clause-ok
returns-in_ok-revise-in-Allowed-clause-ok g c = λ changed is.
    made-allowed changed _ _ _ c.in-Allowed.number c.in-Allowed.entry c.in-Allowed.is c.in_ok-revise-in-Allowed.ensures.ok is
