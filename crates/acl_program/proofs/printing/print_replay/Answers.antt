use Rattle.command_files.proofs.wire_io_proofs.Theorems.{PutsAll-then, PutsAll-cut, PutCause-then}
use Rattle.acl_program.proofs.printing.print_replay.Goals as goal

-- the lines were put, and the tree was to be
pub returns-in-Ok-clause-tells : goal.returns-in-Ok-clause-tells
returns-in-Ok-clause-tells g c = PutsAll-then _ _ _ _ _ _ _ c.in-Ok.ensures.tells c.print_dumped.ensures.tells

pub returns-in-Ok-clause-cause : goal.returns-in-Ok-clause-cause
returns-in-Ok-clause-cause g c = PutCause-then _ _ _ _ _ c.in-Ok.ensures.cause c.print_dumped.ensures.cause

-- the lines were refused
pub returns-in-Err-clause-tells : goal.returns-in-Err-clause-tells
returns-in-Err-clause-tells g c = PutsAll-cut _ _ _ _ _ _ c.in-Err.ensures.tells
