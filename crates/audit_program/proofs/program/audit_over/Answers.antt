use Rattle.std.proofs.Common.{sym}
use Rattle.audit_program.specs.Words.{audit_of}
use Rattle.audit_program.proofs.program.PerformLemmas.{LoadsScript-fresh, Performs-script_refused, Performs-told}
use Rattle.audit_program.proofs.program.audit_over.Goals as goal

-- the link is fresh
pub tell_audit-requires : goal.tell_audit-requires
tell_audit-requires g c = record { fresh = LoadsScript-fresh _ _ _ _ _ c.in-Ok.ensures.exact; good = c.requires.good }

-- the script was read
pub returns-in-Ok-clause-performs : goal.returns-in-Ok-clause-performs
returns-in-Ok-clause-performs g c = rw (sym c.outside.view_is) (λ name before loads.
    Performs-told (audit_of name c.args.asked.now.script.now c.args.asked.now.number c.args.asked.now.top) _ _ _ _ _ _ loads c.in-Ok.ensures.exact c.tell_audit.ensures.tells)

-- it wasn't
pub returns-in-Err-clause-performs : goal.returns-in-Err-clause-performs
returns-in-Err-clause-performs g c = rw (sym c.outside.view_is) (λ name before loads.
    Performs-script_refused (audit_of name c.args.asked.now.script.now c.args.asked.now.number c.args.asked.now.top) _ _ _ _ _ _ loads c.in-Err.ensures.exact c.print_trouble.ensures.ends)
