use Rattle.std.proofs.Common.{refl, sym}
use Rattle.audit_program.proofs.program.PerformLemmas.{Prints-performed, Prints-usage, Prints-unread}
use Rattle.audit_program.proofs.program.audit_words.Goals as goal

-- the words ask for an audit
pub returns-in-Ok-Some-clause-prints : goal.returns-in-Ok-Some-clause-prints
returns-in-Ok-Some-clause-prints g c =
    Prints-performed _ _ _ _ _ (rw c.in-Ok-Some.field-0-is at c.in-Ok-Some.ensures.found) c.audit_files.ensures.performs

-- they ask for none
pub returns-in-Ok-None-clause-prints : goal.returns-in-Ok-None-clause-prints
returns-in-Ok-None-clause-prints g c =
    rw (sym c.outside.view_is) (Prints-usage _ _ _ _ (rw c.in-Ok-None.field-0-is at c.in-Ok-None.ensures.only) c.print_usage.ensures.ends refl)

-- there was no memory to read them
pub returns-in-Err-clause-prints : goal.returns-in-Err-clause-prints
returns-in-Err-clause-prints g c = Prints-unread _ _ _ refl refl
