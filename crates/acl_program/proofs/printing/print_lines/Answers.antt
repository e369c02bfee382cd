use Rattle.std.proofs.Common.{◌∙◌}
use Rattle.command_files.proofs.wire_io_proofs.Theorems.{PutsAll-no_memory, PutCause-no_memory}
use Rattle.acl_program.proofs.printing.PrintLemmas.{PutsAll-opened}
use Rattle.acl_program.proofs.printing.print_lines.Goals as goal

-- there is no memory for the numbers
pub returns-in_default-clause-tells : goal.returns-in_default-clause-tells
returns-in_default-clause-tells g c = PutsAll-no_memory _ _ _

pub returns-in_default-clause-cause : goal.returns-in_default-clause-cause
returns-in_default-clause-cause g c = PutCause-no_memory _ _

-- the lines of all connections were to be put
pub returns-clause-tells : goal.returns-clause-tells
returns-clause-tells g c = PutsAll-opened _ _ _ _ _ (c.as_slice.ensures.value ∙ c.in-Ok.ensures.ok) c.print_each.ensures.tells
