use Rattle.std.proofs.Common.{refl, ◌∙◌}
use Rattle.command_files.specs.data_file.Files.{cause_of}
use Rattle.command_files.specs.Outside.{written}
use Rattle.acl_program.specs.Outcomes.{Explained, text_of, status_of}
use Rattle.acl_program.proofs.troubles.EndsLemmas.{Ends-put}
use Rattle.acl_program.proofs.why.print_places.Goals as goal

-- the text was to be put, and how the sink answered
pub returns : goal.returns
unfolding text_of status_of
returns g c = record { ends = Ends-put (Explained c.args.line (cause_of c.args.cause) c.args.content.now) (written _ _) (written _ _) _ _ _ _ (c.as_bytes.ensures.value ∙ c.in-Ok.ensures) refl c.after.ensures.exact c.write_all-put.ensures.tells c.write_all-put.ensures.cause }
