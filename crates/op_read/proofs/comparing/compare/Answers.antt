-- What is answered over the tree is answered over its twins.
use Rattle.std.proofs.lemmas.Result.{IfOk-weaker}
use Rattle.dir_tree.specs.tree.Numbered.{entries_of}
use Rattle.op_read.proofs.comparing.AlikeLemmas.{compares_alike}
use Rattle.op_read.proofs.comparing.compare.Goals as goal

pub returns-clause-twins : goal.returns-clause-twins
returns-clause-twins g c =
    IfOk-weaker c.compare_over.result _ _
    (λ found is. compares_alike c.args.who.now (entries_of (g.D.Dir.rows c.args.dir.now)) c.args.request.now found is)
    c.compare_over.ensures.ok
