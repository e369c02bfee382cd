use Rattle.command_files.specs.Outside.{written}
use Rattle.acl_program.specs.Troubles.{outcome_of}
use Rattle.acl_program.proofs.troubles.EndsLemmas.{Ends-put, trouble_text-outcome}
use Rattle.acl_program.proofs.troubles.print_trouble.Goals as goal

-- the line was to be put, and how the sink answered
pub returns : goal.returns
returns g c = record {
  ends = Ends-put (outcome_of c.args.trouble) (written _ _) (written _ _) _ _ _ _ (trouble_text-outcome c.args.trouble) c.trouble_status.ensures.exact c.after.ensures.exact
      c.put_trouble-put.ensures.tells c.put_trouble-put.ensures.cause;
}
