use Rattle.std.proofs.Common.{refl, ◌∙◌}
use Rattle.command_files.specs.dir_tree.tree.Numbered.{entries_of}
use Rattle.command_files.specs.Outside.{written}
use Rattle.acl_program.specs.Answering.{why_text}
use Rattle.acl_program.specs.Outcomes.{Answered, text_of, status_of}
use Rattle.acl_program.proofs.troubles.EndsLemmas.{Ends-put}
use Rattle.acl_program.proofs.why.print_notes.Goals as goal

-- the text was to be put, and how the sink answered
pub returns : goal.returns
unfolding text_of status_of
returns g c = record { ends = Ends-put (Answered (why_text (entries_of c.args.tree.now))) (written _ _) (written _ _) _ _ _ _ (c.as_bytes.ensures.value ∙ c.in-Ok.ensures) refl c.after.ensures.exact c.write_all-put.ensures.tells c.write_all-put.ensures.cause }
