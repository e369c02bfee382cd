use Rattle.wire_io.proofs.Theorems.{PutsAll-no_memory, PutCause-no_memory}
use Rattle.command_files.proofs.troubles.put_bad_changes.Goals as goal

-- there was no memory for the line, and nothing was put
pub returns-in_default-clause-tells : goal.returns-in_default-clause-tells
returns-in_default-clause-tells g c = PutsAll-no_memory _ _ _

pub returns-in_default-clause-cause : goal.returns-in_default-clause-cause
returns-in_default-clause-cause g c = PutCause-no_memory _ _
