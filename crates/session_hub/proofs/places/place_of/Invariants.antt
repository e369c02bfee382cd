use Rattle.session_hub.specs.hub.Hubs.{NoneBefore}
use Rattle.session_hub.proofs.places.place_of.Given as goal

-- none of the connections so far has the number
abbrev pub invariant-loop-at : goal.invariant-loop-at
invariant-loop-at l = NoneBefore l.number l.at l.connections
