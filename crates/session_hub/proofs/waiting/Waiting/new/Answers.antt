use Rattle.session_hub.proofs.waiting.WaitLemmas.{distinct_none}
use Rattle.session_hub.proofs.waiting.Waiting.new.Goals as goal

-- nobody is on hold
pub invariant_of-result-clause-once : goal.invariant_of-result-clause-once
invariant_of-result-clause-once c = distinct_none _ c.in_ok-with_capacity.ensures.items
