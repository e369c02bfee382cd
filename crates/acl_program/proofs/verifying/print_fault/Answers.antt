use Rattle.std.proofs.Common.{refl}
use Rattle.command_files.specs.Outside.{written}
use Rattle.acl_program.specs.Outcomes.{OutOfMemory}
use Rattle.acl_program.proofs.troubles.EndsLemmas.{Ends-no_memory}
use Rattle.command_files.proofs.wire_io_proofs.Theorems.{appended-none}
use Rattle.acl_program.proofs.verifying.print_fault.Goals as goal

-- each fault has its line
pub returns-in-Form : goal.returns-in-Form
returns-in-Form g c = record { ends = rw c.in-Form.is c.print_trouble.ensures.ends }

pub returns-in-False : goal.returns-in-False
returns-in-False g c = record { ends = rw c.in-False.is c.print_false_line.ensures.ends }

-- nothing is printed for want of memory
pub returns-in-NoMemory : goal.returns-in-NoMemory
returns-in-NoMemory g c = record { ends = rw c.in-NoMemory.is (Ends-no_memory OutOfMemory (written _ _) (written _ _) 0 (appended-none _) refl) }
