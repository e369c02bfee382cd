-- What is left of the spots, from where reading stands, gives what all spots give.
use Rattle.std.proofs.Common.{◌≡◌, drop}
use Rattle.text_stops.specs.Standing.{standing_of, stop_from}
use Rattle.text_stops.proofs.reading.stop_from.Given as goal

abbrev pub invariant-loop-spot : goal.invariant-loop-spot
invariant-loop-spot l =
    stop_from l.text (standing_of l.standing) (drop l.spot-index l.spots) ≡ stop_from l.text (standing_of l.fn.standing) l.spots
