use Rattle.std.proofs.Common.{refl, sym}
use Rattle.command_words.specs.command.Command.{Verify}
use Rattle.acl_program.proofs.program.PerformLemmas.{Performs-after, Performs-refused}
use Rattle.acl_program.proofs.verifying.tell_validity.Goals as goal

-- the data file was loaded
pub returns-in-Ok-clause-performs : goal.returns-in-Ok-clause-performs
returns-in-Ok-clause-performs g c = rw (sym c.outside.view_is) (Performs-after _ _ _ _ _ _ _ _ c.in-Ok.ensures.kept c.in-Ok.ensures.exact (c.verify_over.ensures.performs _ _))

-- it wasn't
pub returns-in-Err-clause-performs : goal.returns-in-Err-clause-performs
returns-in-Err-clause-performs g c = rw (sym c.outside.view_is) (Performs-refused (Verify c.args.asked.now.data.now c.args.asked.now.certificate.now) c.args.asked.now.data.now _ _ _ _ refl refl c.in-Err.ensures.exact c.print_trouble.ensures.ends refl)
