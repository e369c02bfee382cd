use Rattle.std.proofs.Common.{refl, sym}
use Rattle.command_words.specs.command.Command.{Replay}
use Rattle.command_files.specs.declared.loading.SecondFile.TheVariants as second
use Rattle.command_files.specs.loading.Accepting.{IsBadScript}
use Rattle.command_files.specs.loading.Loading.{LoadsScript}
use Rattle.acl_program.specs.program.Causes.{second_named}
use Rattle.acl_program.proofs.program.RunLemmas.{LoadsScript-fresh}
use Rattle.acl_program.proofs.program.PerformLemmas.{Performs-replayed, Performs-second_refused}
use Rattle.acl_program.proofs.replay.replay_over.Goals as goal

-- the link is fresh
pub play-requires : goal.play-requires
play-requires g c = record { fresh = LoadsScript-fresh _ _ _ _ _ c.in-Ok.ensures.exact; good = c.requires.good }

-- the script was read
pub returns-in-Ok-clause-performs : goal.returns-in-Ok-clause-performs
returns-in-Ok-clause-performs g c = rw (sym c.outside.view_is) (λ name before loads. Performs-replayed name _ _ _ _ _ _ _ _ _ loads c.in-Ok.ensures.exact c.play.ensures.ends refl)

-- it wasn't
pub returns-in-Err-clause-performs : goal.returns-in-Err-clause-performs
unfolding LoadsScript
returns-in-Err-clause-performs g c = rw (sym c.outside.view_is) (λ name before loads.
    Performs-second_refused (Replay name c.args.asked.now.script.now c.args.asked.now.turns c.args.asked.now.dump) name (second_named second.Script c.args.asked.now.script.now) IsBadScript _ _ _ _ _ _
    refl refl (λ line content bad. bad) loads c.in-Err.ensures.exact c.print_trouble.ensures.ends refl)
