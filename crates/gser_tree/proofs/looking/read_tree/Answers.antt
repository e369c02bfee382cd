-- The laws of the value of a text.
use Rattle.gser_tree.proofs.looking.LookingLemmas.{found_text, only_text}
use Rattle.gser_tree.proofs.looking.read_tree.Goals as goal
use Rattle.std.proofs.lemmas.Result.{IfOk-weaker}

pub returns-clause-found : goal.returns-clause-found
returns-clause-found c = IfOk-weaker c.tree_of.result _ _ (λ found h. found_text c.args.text.now found h) c.tree_of.ensures.ok

pub returns-clause-only : goal.returns-clause-only
returns-clause-only c = IfOk-weaker c.tree_of.result _ _ (λ found h. only_text c.args.text.now found h) c.tree_of.ensures.ok
