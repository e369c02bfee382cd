use Rattle.std.specs.List.{IsDistinct}
use Rattle.session_tests.proofs.loops.the_loop_ends_where_its_link_fails.Goals as goal

-- no events open no number
pub new-link-requires-clause-once : goal.new-link-requires-clause-once
unfolding IsDistinct
new-link-requires-clause-once g c = rw c.new.ensures.items tt
