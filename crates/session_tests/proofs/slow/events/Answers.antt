use Rattle.std.proofs.Common.{rules}
use Rattle.std.specs.List.{IsDistinct}
use Rattle.session_tests.proofs.slow.events.Goals as goal

-- the two numbers are not the same
pub returns-clause-once : goal.returns-clause-once
unfolding IsDistinct
returns-clause-once c = rw c.in_ok-vec.ensures.items (search rules)
