use Rattle.std.proofs.Common.{refl, ◌∙◌}
use Rattle.command_files.specs.dir_tree.tree.Numbered.{entries_of}
use Rattle.command_files.specs.Outside.{written}
use Rattle.acl_program.specs.Outcomes.{Sampled, text_of, status_of}
use Rattle.acl_program.specs.Sampling.{sample_text}
use Rattle.acl_program.proofs.troubles.EndsLemmas.{Ends-put}
use Rattle.acl_program.proofs.sample.sample_over.Goals as goal

-- the summary was to be put, and how the sink answered
pub returns : goal.returns
unfolding text_of status_of
returns g c =
    record { ends = Ends-put (Sampled (sample_text (entries_of c.args.tree) c.args.count)) (written _ _) (written _ _) _ _ _ _ (c.as_bytes.ensures.value ∙ c.in-Ok.ensures.exact) refl c.after.ensures.exact c.write_all-put.ensures.tells c.write_all-put.ensures.cause }
