use Rattle.std.proofs.Common.{rules}
use Rattle.std.specs.List.{IsDistinct}
use Rattle.server_tests.proofs.stores.one_message.Goals as goal

-- one number is opened
pub returns-clause-once : goal.returns-clause-once
unfolding IsDistinct
returns-clause-once c = rw c.in_ok-vec.ensures.items (search rules)
