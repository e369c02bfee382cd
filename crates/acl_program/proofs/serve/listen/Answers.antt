use Rattle.std.proofs.Common.{ap}
use Rattle.command_files.specs.dir_tree.tree.Numbered.{entries_of}
use Rattle.acl_program.specs.serve.Listening.{listening_asked}
use Rattle.acl_program.proofs.serve.ServeLemmas.{Listens-over, Listens-nothing}
use Rattle.acl_program.proofs.serve.listen.Goals as goal

-- the directory is that of the tree
pub returns-in-Ok-clause-listens : goal.returns-in-Ok-clause-listens
returns-in-Ok-clause-listens g c = λ content. Listens-over c.args.asked.now content _ _ _ _ _ (ap entries_of c.in-Ok.ensures.ok) (c.listen_on.ensures.listens content)

-- there was no memory for it
pub returns-in-Err-clause-listens : goal.returns-in-Err-clause-listens
returns-in-Err-clause-listens g c = λ content. Listens-nothing (listening_asked c.args.asked.now content _) _
