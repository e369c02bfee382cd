use Rattle.std.proofs.Common.{refl, sym, option_copied}
use Rattle.command_words.specs.command.Command.{Check}
use Rattle.acl_program.proofs.program.PerformLemmas.{Performs-checked, Performs-tree_refused}
use Rattle.acl_program.proofs.data.check.Goals as goal

-- the files were loaded
pub returns-in-Ok-clause-performs : goal.returns-in-Ok-clause-performs
returns-in-Ok-clause-performs g c = rw (sym c.outside.view_is) (Performs-checked _ _ _ _ _ _ c.in-Ok.ensures.exact c.print_counts.ensures.ends refl)

-- they weren't
pub returns-in-Err-clause-performs : goal.returns-in-Err-clause-performs
returns-in-Err-clause-performs g c = rw (sym c.outside.view_is) (
    Performs-tree_refused (Check c.args.asked.now.data.now (option_copied c.args.asked.now.changes)) c.args.asked.now.data.now _ _ _ _ refl refl c.in-Err.ensures.exact c.print_trouble.ensures.ends refl refl)
