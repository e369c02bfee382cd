use Rattle.std.proofs.Common.{sym}
use Rattle.command_files.specs.Outside.{written}
use Rattle.acl_program.specs.program.Playing.{Shows}
use Rattle.acl_program.proofs.troubles.EndsLemmas.{Ends-put}
use Rattle.acl_program.proofs.replay.show.Goals as goal

-- the lines and the tree were to be put, and how the sink answered
pub returns : goal.returns
unfolding Shows
returns g c = record {
  ends = λ outcome text status. Ends-put outcome (written _ _) (written _ _) _ _ _ _ (sym text) (sym status) c.after.ensures.exact c.print_replay-put.ensures.tells c.print_replay-put.ensures.cause;
}
