use Rattle.std.proofs.Common.{refl}
use Rattle.command_files.specs.loading.Changing.{left_of}
use Rattle.command_files.specs.Outside.{written}
use Rattle.acl_program.specs.Outcomes.{Dumped, text_of, status_of}
use Rattle.acl_program.proofs.troubles.EndsLemmas.{Ends-put}
use Rattle.acl_program.proofs.data.print_tree.Goals as goal

-- the tree was to be put, and how the sink answered
pub returns : goal.returns
unfolding text_of status_of
returns g c = record { ends = Ends-put (Dumped (left_of c.args.loaded.now)) (written _ _) (written _ _) _ _ _ _ refl refl c.after.ensures.exact c.put_tree-put.ensures.tells c.put_tree-put.ensures.cause }
