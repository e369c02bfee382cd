-- The events so far are what the link gave.
use Rattle.std.proofs.Common.{◌≡◌, length}
use Rattle.session_hub.specs.serve.Loops.{buffer_length}
use Rattle.session_hub.specs.session_model.wire_io.Pieces.{pieces}
use Rattle.event_replay.proofs.played.PlayLemmas.{HasGiven}
use Rattle.event_replay.proofs.played.heard_events.Given as goal

abbrev pub invariant-loop-events : goal.invariant-loop-events
invariant-loop-events l = record {
  given : HasGiven l.fn.link.plan.to_come l.link l.events.items;
  long : length l.buffer ≡ buffer_length;
}

abbrev pub decreases-loop-events : goal.decreases-loop-events
decreases-loop-events l = length (pieces buffer_length l.link.plan.to_come)
