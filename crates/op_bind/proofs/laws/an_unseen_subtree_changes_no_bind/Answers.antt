use Rattle.op_bind.proofs.laws.UnseenLaw.{bind_answer-without}
use Rattle.op_bind.proofs.laws.an_unseen_subtree_changes_no_bind.Goals as goal

pub returns : goal.returns
returns c = record { exact = bind_answer-without }
