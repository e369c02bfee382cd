use Rattle.std.proofs.Common.{◌≡◌, ◌++◌, take, map}
use Rattle.client_core.specs.Scripts.{sent}
use Rattle.client_core.proofs.scripts.push_events.Given as goal

-- the events of the requests before
abbrev pub invariant-loop-ask : goal.invariant-loop-ask
invariant-loop-ask l = l.events.items ≡ l.initial.events.items ++ map sent (take l.ask-index l.asked)
