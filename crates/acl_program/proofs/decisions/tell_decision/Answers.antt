use Rattle.std.proofs.Common.{refl, sym}
use Rattle.acl_program.proofs.decisions.DecisionLemmas.{Performs-no_question}
use Rattle.acl_program.proofs.program.PerformLemmas.{Performs-no_memory}
use Rattle.acl_program.proofs.decisions.tell_decision.Goals as goal

-- the words are a question
pub returns-in-Ok-Some-clause-performs : goal.returns-in-Ok-Some-clause-performs
returns-in-Ok-Some-clause-performs g c = c.decide_over.ensures.performs _ _ _ _ (sym (rw c.in-Ok-Some.field-0-is at c.in-Ok-Some.ensures.exact))

-- they are none
pub returns-in-Ok-None-clause-performs : goal.returns-in-Ok-None-clause-performs
returns-in-Ok-None-clause-performs g c = rw (sym c.outside.view_is) (Performs-no_question _ _ _ _ _ _ _ _ _ (rw c.in-Ok-None.field-0-is at c.in-Ok-None.ensures.exact) c.print_usage.ensures.ends refl refl)

-- there was no memory for it
pub returns-in-Err-clause-performs : goal.returns-in-Err-clause-performs
returns-in-Err-clause-performs g c = Performs-no_memory _ _
