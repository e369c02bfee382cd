use Rattle.std.proofs.Common.{refl, sym}
use Rattle.command_files.specs.Outside.{written}
use Rattle.acl_program.specs.serve.Listening.{listening_asked}
use Rattle.acl_program.proofs.serve.ServeLemmas.{ListensOn-ended, ListensOn-cut}
use Rattle.acl_program.proofs.serve.serve_opened.Goals as goal

-- the lines were put
pub returns-in-Ok-clause-opened : goal.returns-in-Ok-clause-opened
returns-in-Ok-clause-opened g c = rw (sym c.outside.view_is) (λ content.
    ListensOn-ended (listening_asked c.args.asked.now content _) _ _ _ (written _ _) _ c.in-Ok.ensures.tells c.in-Ok.ensures.cause (c.serve_events.ensures.serves content _))

-- they weren't
pub returns-in-Err-clause-opened : goal.returns-in-Err-clause-opened
returns-in-Err-clause-opened g c = rw (sym c.outside.view_is) (λ content.
    ListensOn-cut (listening_asked c.args.asked.now content _) _ _ _ _ c.in-Err.ensures.tells c.in-Err.ensures.cause c.after.ensures.exact refl)
