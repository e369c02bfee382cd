use Rattle.std.proofs.Common.{refl, sym}
use Rattle.command_words.specs.command.Command.{serving_view}
use Rattle.acl_program.proofs.serve.ServeLemmas.{Performs-served, Performs-unready}
use Rattle.acl_program.proofs.serve.serve.Goals as goal

-- what is to be served was ready
pub returns-in-Ok-clause-performs : goal.returns-in-Ok-clause-performs
returns-in-Ok-clause-performs g c = Performs-served (serving_view c.args.asked.now) _ c.make_ready.new.outside _ _ _
    c.in-Ok.ensures.readies c.in-Ok.ensures.out c.listen_for.ensures.kept c.listen_for.ensures.listens

-- it wasn't
pub returns-in-Err-clause-performs : goal.returns-in-Err-clause-performs
returns-in-Err-clause-performs g c = Performs-unready (serving_view c.args.asked.now) _ _ _ _ _
    (rw (sym c.outside.view_is) at c.in-Err.ensures.readies) (rw (sym c.outside.view_is) at c.in-Err.ensures.out) c.print_unready.ensures.ends refl refl
