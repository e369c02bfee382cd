-- The rows of the table.
use Rattle.std.proofs.Common.{rules}
use Rattle.page_core.specs.read_model.CompareReplies.{compared}
use Rattle.op_read.proofs.comparing.compared.Goals as goal

pub returns-then-allows : goal.returns-then-allows
unfolding compared
returns-then-allows g c = search rules

pub returns-else-allows : goal.returns-else-allows
unfolding compared
returns-else-allows g c = search rules

pub returns-then-not-has_kind : goal.returns-then-not-has_kind
unfolding compared
returns-then-not-has_kind g c = search rules

pub returns-then-has_equal : goal.returns-then-has_equal
unfolding compared
returns-then-has_equal g c = search rules

pub returns-else-has_equal : goal.returns-else-has_equal
unfolding compared
returns-else-has_equal g c = search rules
