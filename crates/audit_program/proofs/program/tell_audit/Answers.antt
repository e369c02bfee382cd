use Rattle.std.proofs.Common.{refl, inl, inr}
use Rattle.audit_program.specs.Performing.{Tells}
use Rattle.audit_program.proofs.program.tell_audit.Goals as goal

-- the audit was to be put
pub returns-in-Ok : goal.returns-in-Ok
unfolding Tells
returns-in-Ok g c = record { tells = inl (c.in-Ok.audited, record { audit = c.in-Ok.ensures.ok; hushed = c.in-Ok.ensures.hushed }, c.print_audit.ensures.ends) }

-- there was no memory for it
pub returns-in-Err : goal.returns-in-Err
unfolding Tells
returns-in-Err g c = record { tells = inr (refl, refl) }
