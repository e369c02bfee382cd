use Rattle.command_files.proofs.wire_io_proofs.Theorems.{PutCause-then}
use Rattle.acl_program.proofs.printing.PrintLemmas.{PutsAll-line, PutsAll-number}
use Rattle.acl_program.proofs.printing.print_line.Goals as goal

-- the number was put, and the rest was to be
pub returns-in-Ok-clause-tells : goal.returns-in-Ok-clause-tells
returns-in-Ok-clause-tells g c =
    PutsAll-line _ _ _ _ _ _ _ _ _ _ c.said_of.ensures.exact c.hung_up.ensures.exact c.in-Ok.ensures.tells c.print_sent.ensures.tells

pub returns-in-Ok-clause-cause : goal.returns-in-Ok-clause-cause
returns-in-Ok-clause-cause g c = PutCause-then _ _ _ _ _ c.in-Ok.ensures.cause c.print_sent.ensures.cause

-- the number was refused
pub returns-in-Err-clause-tells : goal.returns-in-Err-clause-tells
returns-in-Err-clause-tells g c = PutsAll-number _ _ _ _ _ _ c.in-Err.ensures.tells
