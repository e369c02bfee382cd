use Rattle.command_files.proofs.wire_io_proofs.Theorems.{PutsAll-nothing, PutCause-nothing}
use Rattle.acl_program.proofs.printing.print_dumped.Goals as goal

-- there is no tree to put
pub returns-in-None-clause-tells : goal.returns-in-None-clause-tells
returns-in-None-clause-tells g c = rw c.in-None.is (PutsAll-nothing _ _)

pub returns-in-None-clause-cause : goal.returns-in-None-clause-cause
returns-in-None-clause-cause g c = PutCause-nothing _ _
