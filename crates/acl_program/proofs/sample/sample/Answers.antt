use Rattle.std.proofs.Common.{refl, sym}
use Rattle.acl_program.proofs.program.PerformLemmas.{Performs-no_memory}
use Rattle.acl_program.proofs.sample.SampleLemmas.{Performs-sampled, Performs-unsampled}
use Rattle.acl_program.proofs.sample.sample.Goals as goal

-- the sample was loaded
pub returns-in-Ok-clause-performs : goal.returns-in-Ok-clause-performs
returns-in-Ok-clause-performs g c =
    rw (sym c.outside.view_is) (Performs-sampled _ _ _ _ _ c.in-Ok.ensures.ok c.sample_over.ensures.ends refl refl)

-- its file isn't accepted
pub returns-in-Err-Bad-clause-performs : goal.returns-in-Err-Bad-clause-performs
returns-in-Err-Bad-clause-performs g c =
    rw (sym c.outside.view_is) (Performs-unsampled _ _ _ _ _ _ (rw c.in-Err-Bad.field-0-is at c.in-Err-Bad.ensures.bad) c.print_trouble.ensures.ends refl refl)

-- there was no memory for it
pub returns-in-Err-NoMemory-clause-performs : goal.returns-in-Err-NoMemory-clause-performs
returns-in-Err-NoMemory-clause-performs g c = Performs-no_memory _ _
