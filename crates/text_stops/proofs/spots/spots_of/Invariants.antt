-- The spots so far, and those of what is left, are the spots of the text.
use Rattle.std.proofs.Common.{◌≡◌, ◌++◌, drop}
use Rattle.text_stops.specs.declared.spots.Mode.TheVariants.{Between}
use Rattle.text_stops.specs.Spots.{spots_from}
use Rattle.text_stops.proofs.spots.spots_of.Given as goal

abbrev pub invariant-loop-place : goal.invariant-loop-place
invariant-loop-place l = l.spots.items ++ spots_from l.mode l.place (drop l.place l.text) ≡ spots_from Between 0 l.text
