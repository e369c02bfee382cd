-- Neither the mark nor a backslash has come, so the place of the first mark is counted from here on.
use Rattle.std.proofs.Common.{◌≡◌, ◌+◌, false, drop}
use Rattle.dn_names.specs.Reading.{mark_from}
use Rattle.dn_names.proofs.parts.mark_place.Given as goal

abbrev pub invariant-loop-place : goal.invariant-loop-place
invariant-loop-place l = l.place + mark_from l.mark false (drop l.place l.text) ≡ mark_from l.mark false l.text
