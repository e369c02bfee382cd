use Rattle.audit_program.proofs.troubles.print_usage.Goals as goal

-- the line was to be put, and how the sink answered
pub returns : goal.returns
returns g c = record { ends = record { answer = c.write_all-put.result; is = c.after.ensures.exact; puts = c.write_all-put.ensures.tells; cause = c.write_all-put.ensures.cause } }
