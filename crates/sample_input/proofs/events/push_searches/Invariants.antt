use Rattle.std.proofs.Common.{◌≡◌}
use Rattle.sample_input.specs.SampleEvents.{sample_events}
use Rattle.sample_input.proofs.events.push_searches.Given as goal

-- the searches for so many persons are there
abbrev pub invariant-loop-done : goal.invariant-loop-done
invariant-loop-done l = l.events.items ≡ sample_events l.done
