use Rattle.wire_io.proofs.Theorems.{PutsAll-nothing, PutCause-nothing}
use Rattle.command_files.proofs.troubles.put_trouble.Goals as goal

-- each trouble has its line
pub returns-in-NoFile-clause-tells : goal.returns-in-NoFile-clause-tells
returns-in-NoFile-clause-tells g c = rw c.in-NoFile.is c.write_all.ensures.tells

pub returns-in-BadData-clause-tells : goal.returns-in-BadData-clause-tells
returns-in-BadData-clause-tells g c = rw c.in-BadData.is c.put_bad_data.ensures.tells

pub returns-in-BadChanges-clause-tells : goal.returns-in-BadChanges-clause-tells
returns-in-BadChanges-clause-tells g c = rw c.in-BadChanges.is c.put_bad_changes.ensures.tells

pub returns-in-BadLine-clause-tells : goal.returns-in-BadLine-clause-tells
returns-in-BadLine-clause-tells g c = rw c.in-BadLine.is c.put_bad_line.ensures.tells

-- nothing is printed for want of memory
pub returns-in-NoMemory-clause-tells : goal.returns-in-NoMemory-clause-tells
returns-in-NoMemory-clause-tells g c = rw c.in-NoMemory.is (PutsAll-nothing _ _)

pub returns-in-NoMemory-clause-cause : goal.returns-in-NoMemory-clause-cause
returns-in-NoMemory-clause-cause g c = PutCause-nothing _ _
