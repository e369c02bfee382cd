use Rattle.std.proofs.Common.{◌≡◌, ◌-◌, ◌^◌, min, take}
use Rattle.session_hub.specs.Rooms.{queued_beside}
use Rattle.session_hub.proofs.places.beside.Given as goal

-- so much waits for those so far
abbrev pub invariant-loop-connection : goal.invariant-loop-connection
invariant-loop-connection l = l.queued ≡ min (2 ^ 64 - 1) (queued_beside l.number (take l.connection-index l.connections))
