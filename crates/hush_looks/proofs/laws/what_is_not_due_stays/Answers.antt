-- The law is proved of the definitions.
use Rattle.hush_looks.proofs.laws.DueLemmas.{answer-tree, answer-who, request-none}
use Rattle.hush_looks.proofs.laws.what_is_not_due_stays.Goals as goal

pub returns : goal.returns
returns c = record { tree = answer-tree; who = answer-who; request = request-none }
