-- The name is one, or none.
use Rattle.std.proofs.Common.{rules}
use Rattle.page_core.specs.read_model.CompareReplies.{compare_result}
use Rattle.op_read.proofs.comparing.compare_known.Goals as goal

pub returns-in-Some : goal.returns-in-Some
unfolding compare_result
returns-in-Some g c = search rules

pub returns-in-None : goal.returns-in-None
unfolding compare_result
returns-in-None g c = search rules
