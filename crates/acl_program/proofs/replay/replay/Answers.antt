use Rattle.std.proofs.Common.{refl, sym}
use Rattle.command_words.specs.command.Command.{Replay}
use Rattle.acl_program.proofs.program.RunLemmas.{LoadsData-good}
use Rattle.acl_program.proofs.program.PerformLemmas.{Performs-after, Performs-refused}
use Rattle.acl_program.proofs.replay.replay.Goals as goal

-- the tree is good
pub replay_over-requires : goal.replay_over-requires
replay_over-requires g c = record { good = LoadsData-good _ _ _ _ _ c.in-Ok.ensures.exact }

-- the data file was loaded
pub returns-in-Ok-clause-performs : goal.returns-in-Ok-clause-performs
returns-in-Ok-clause-performs g c = rw (sym c.outside.view_is) (Performs-after _ _ _ _ _ _ _ _ c.in-Ok.ensures.kept c.in-Ok.ensures.exact (c.replay_over.ensures.performs _ _))

-- it wasn't
pub returns-in-Err-clause-performs : goal.returns-in-Err-clause-performs
returns-in-Err-clause-performs g c = rw (sym c.outside.view_is) (Performs-refused (Replay c.args.asked.now.data.now c.args.asked.now.script.now c.args.asked.now.turns c.args.asked.now.dump)
    c.args.asked.now.data.now _ _ _ _ refl refl c.in-Err.ensures.exact c.print_trouble.ensures.ends refl)
