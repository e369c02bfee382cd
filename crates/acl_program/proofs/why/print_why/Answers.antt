use Rattle.command_files.specs.Outside.{written}
use Rattle.acl_program.proofs.why.WhyLemmas.{EndsWhy-good, EndsWhy-bad, EndsWhy-no_memory}
use Rattle.acl_program.proofs.why.print_why.Goals as goal

-- the content is a data file
pub returns-in-Ok : goal.returns-in-Ok
returns-in-Ok g c = record { ends = EndsWhy-good _ _ (written _ _) (written _ _) _ c.in-Ok.ensures.ok c.print_notes.ensures.ends }

-- it isn't
pub returns-in-Err-Bad : goal.returns-in-Err-Bad
returns-in-Err-Bad g c = record { ends = EndsWhy-bad _ _ _ (written _ _) (written _ _) _ (rw c.in-Err-Bad.field-0-is at c.in-Err-Bad.ensures.bad) c.print_places.ensures.ends }

-- there was no memory to load it
pub returns-in-Err-NoMemory : goal.returns-in-Err-NoMemory
returns-in-Err-NoMemory g c = record { ends = EndsWhy-no_memory _ (written _ _) }
