use Rattle.std.proofs.Common.{refl, sym}
use Rattle.command_words.specs.command.Command.{Rights}
use Rattle.acl_program.proofs.rights_table.RightsLemmas.{Performs-rights}
use Rattle.acl_program.proofs.program.PerformLemmas.{Performs-refused}
use Rattle.acl_program.proofs.rights_table.rights_over.Goals as goal

-- the data file was loaded
pub returns-in-Ok-clause-performs : goal.returns-in-Ok-clause-performs
returns-in-Ok-clause-performs g c = rw (sym c.outside.view_is) (λ who target is_who is_target.
    Performs-rights _ who target _ _ _ _ _ _ is_who is_target c.in-Ok.ensures.exact c.print_rights.ensures.ends refl)

-- it wasn't
pub returns-in-Err-clause-performs : goal.returns-in-Err-clause-performs
returns-in-Err-clause-performs g c = rw (sym c.outside.view_is) (λ who target is_who is_target.
    Performs-refused (Rights c.args.name.now who target) c.args.name.now _ _ _ _ refl refl c.in-Err.ensures.exact c.print_trouble.ensures.ends refl)
