use Rattle.std.proofs.Common.{refl, sym}
use Rattle.acl_program.specs.serve.Listening.{listening_asked}
use Rattle.acl_program.proofs.serve.ServeLemmas.{Listens-opened, Listens-failed, Listens-no_memory}
use Rattle.acl_program.proofs.serve.listen_on.Goals as goal

-- the link opened
pub returns-in-Ok-clause-listens : goal.returns-in-Ok-clause-listens
returns-in-Ok-clause-listens g c = rw (sym c.outside.view_is) (λ content.
    Listens-opened (listening_asked c.args.asked.now content _) _ _ _ _ c.in-Ok.ensures (c.serve_opened.ensures.opened content))

-- it failed to
pub returns-in-Err-Failed-clause-listens : goal.returns-in-Err-Failed-clause-listens
returns-in-Err-Failed-clause-listens g c = rw (sym c.outside.view_is) (λ content.
    Listens-failed (listening_asked c.args.asked.now content _) _ _ _ (rw c.in-Err-Failed.field-0-is at c.in-Err-Failed.ensures) (c.print_link_fault.ensures.ends (listening_asked c.args.asked.now content _)))

-- there was no memory
pub returns-clause-listens : goal.returns-clause-listens
returns-clause-listens g c = rw (sym c.outside.view_is) (λ content.
    Listens-no_memory (listening_asked c.args.asked.now content _) _ _ (rw c.in-Err-NoMemory.field-0-is at c.in-Err-NoMemory.ensures) refl)
