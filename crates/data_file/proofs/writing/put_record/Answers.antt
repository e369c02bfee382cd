use Rattle.wire_io.proofs.Theorems.{PutsAll-no_memory, PutCause-no_memory}
use Rattle.data_file.proofs.writing.put_record.Goals as goal

-- there is no memory for the record
pub returns-in-Err-clause-tells : goal.returns-in-Err-clause-tells
returns-in-Err-clause-tells g c = PutsAll-no_memory _ _ _

pub returns-in-Err-clause-cause : goal.returns-in-Err-clause-cause
returns-in-Err-clause-cause g c = PutCause-no_memory _ _
