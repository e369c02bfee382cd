use Rattle.std.proofs.Common.{refl, sym}
use Rattle.acl_program.proofs.rights_table.RightsLemmas.{Performs-no_party, said_who, said_target}
use Rattle.acl_program.proofs.program.PerformLemmas.{Performs-no_memory}
use Rattle.acl_program.proofs.rights_table.tell_rights.Goals as goal

-- the words say who and on what
pub returns-in-Ok-Some-clause-performs : goal.returns-in-Ok-Some-clause-performs
returns-in-Ok-Some-clause-performs g c =
    c.rights_over.ensures.performs _ _
    (said_who _ _ _ (rw c.in-Ok-Some.field-0-is at c.in-Ok-Some.ensures.exact)) (said_target _ _ _ (rw c.in-Ok-Some.field-0-is at c.in-Ok-Some.ensures.exact))

-- they don't
pub returns-in-Ok-None-clause-performs : goal.returns-in-Ok-None-clause-performs
returns-in-Ok-None-clause-performs g c = rw (sym c.outside.view_is) (Performs-no_party _ _ _ _ _ _ (rw c.in-Ok-None.field-0-is at c.in-Ok-None.ensures.exact) c.print_usage.ensures.ends refl refl)

-- there was no memory for them
pub returns-in-Err-clause-performs : goal.returns-in-Err-clause-performs
returns-in-Err-clause-performs g c = Performs-no_memory _ _
