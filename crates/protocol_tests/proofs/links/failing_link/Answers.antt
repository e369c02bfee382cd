use Rattle.std.proofs.Common.{refl}
use Rattle.std.specs.List.{IsDistinct}
use Rattle.wire_io.specs.script_text.script.Script.{opens}
use Rattle.protocol_tests.proofs.links.failing_link.Goals as goal

-- the two events open two numbers
pub new-link-requires-clause-once : goal.new-link-requires-clause-once
unfolding IsDistinct
new-link-requires-clause-once c = rw (c.in_ok-push-2.ensures.items, c.in_ok-push.ensures.items, c.new-events.ensures.items) ((refl, tt), (tt, tt))
