use Rattle.std.proofs.Common.{refl}
use Rattle.command_files.specs.Outside.{written}
use Rattle.acl_program.specs.Helping.{version_text}
use Rattle.acl_program.specs.Outcomes.{Answered, text_of, status_of}
use Rattle.acl_program.proofs.troubles.EndsLemmas.{Ends-put}
use Rattle.acl_program.proofs.help.print_version.Goals as goal

-- the text was to be put, and how the sink answered
pub returns : goal.returns
unfolding text_of status_of
returns g c = record { ends = Ends-put (Answered version_text) (written _ _) (written _ _) _ _ _ _ refl refl c.after.ensures.exact c.write_all-put.ensures.tells c.write_all-put.ensures.cause }
