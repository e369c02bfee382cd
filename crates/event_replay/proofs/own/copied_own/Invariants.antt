-- Those of the connection so far are copied.
use Rattle.std.proofs.Common.{◌≡◌, take}
use Rattle.event_replay.specs.Playing.{own_of}
use Rattle.event_replay.proofs.own.copied_own.Given as goal

abbrev pub invariant-loop-event : goal.invariant-loop-event
invariant-loop-event l = l.own.items ≡ own_of l.number (take l.event-index l.events)
