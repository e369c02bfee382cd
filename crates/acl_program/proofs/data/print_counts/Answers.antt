use Rattle.std.proofs.Common.{refl, ◌∙◌}
use Rattle.command_files.specs.loading.Changing.{left_of}
use Rattle.command_files.specs.Outside.{written}
use Rattle.acl_program.specs.Outcomes.{Checked, status_of}
use Rattle.acl_program.proofs.troubles.EndsLemmas.{Ends-put}
use Rattle.acl_program.proofs.data.print_counts.Goals as goal

-- the text was to be put, and how the sink answered
pub returns : goal.returns
unfolding status_of
returns g c = record { ends = Ends-put (Checked (left_of c.args.loaded.now)) (written _ _) (written _ _) _ _ _ _ (c.as_bytes.ensures.value ∙ c.in-Ok.ensures) refl c.after.ensures.exact c.write_all-put.ensures.tells c.write_all-put.ensures.cause }
