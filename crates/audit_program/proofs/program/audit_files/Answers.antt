use Rattle.std.proofs.Common.{sym}
use Rattle.audit_program.specs.Words.{view}
use Rattle.audit_program.proofs.program.PerformLemmas.{LoadsData-good, Performs-after, Performs-refused}
use Rattle.audit_program.proofs.program.audit_files.Goals as goal

-- the tree is good
pub audit_over-requires : goal.audit_over-requires
audit_over-requires g c = record { good = LoadsData-good _ _ _ _ _ c.in-Ok.ensures.exact }

-- the data file was loaded
pub returns-in-Ok-clause-performs : goal.returns-in-Ok-clause-performs
returns-in-Ok-clause-performs g c =
    rw (sym c.outside.view_is) (Performs-after (view c.args.asked.now) _ _ _ _ _ _ c.in-Ok.ensures.kept c.in-Ok.ensures.exact (c.audit_over.ensures.performs _ _))

-- it wasn't
pub returns-in-Err-clause-performs : goal.returns-in-Err-clause-performs
returns-in-Err-clause-performs g c = rw (sym c.outside.view_is) (Performs-refused (view c.args.asked.now) _ _ _ _ c.in-Err.ensures.exact c.print_trouble.ensures.ends)
