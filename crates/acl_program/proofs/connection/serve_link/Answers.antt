use Rattle.acl_program.proofs.connection.ConnectionLemmas.{sent_link}
use Rattle.acl_program.proofs.connection.serve_link.Goals as goal

-- Stop was heard
pub returns-in-Stopped : goal.returns-in-Stopped
returns-in-Stopped c =
    record { sends = λ events fresh. sent_link _ _ events _ c.args.link.now c.serve_loop.new.link fresh c.in-Stopped.ensures.served c.in-Stopped.ensures.plays }
