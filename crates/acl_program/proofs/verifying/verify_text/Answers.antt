use Rattle.std.proofs.Common.{Ok, Err}
use Rattle.acl_program.proofs.verifying.verify_text.Goals as goal

-- the certificate is that of the tree
pub returns-in-Ok : goal.returns-in-Ok
returns-in-Ok g c = record { ends = record { found = Ok c.in-Ok.granted; is = c.in-Ok.ensures.exact; ends = c.print_valid.ensures.ends } }

-- it isn't
pub returns-in-Err : goal.returns-in-Err
returns-in-Err g c = record { ends = record { found = Err c.in-Err.fault; is = c.in-Err.ensures.exact; ends = c.print_fault.ensures.ends } }
