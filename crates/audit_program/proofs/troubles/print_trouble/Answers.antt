use Rattle.std.proofs.Common.{ap, ◌∙◌}
use Rattle.command_files.specs.Ending.{status_after}
use Rattle.audit_program.specs.Statuses.{put_statuses}
use Rattle.audit_program.proofs.troubles.print_trouble.Goals as goal

-- the line was to be put, and how the sink answered
pub returns : goal.returns
returns g c = record {
  ends = record {
    answer = c.put_trouble-put.result;
    is = c.after.ensures.exact ∙ ap (status_after put_statuses c.put_trouble-put.result) c.trouble_status.ensures.exact;
    puts = c.put_trouble-put.ensures.tells;
    cause = c.put_trouble-put.ensures.cause;
  };
}
