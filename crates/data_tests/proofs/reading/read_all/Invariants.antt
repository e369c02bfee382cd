use Rattle.std.proofs.Common.{◌-◌, length}
use Rattle.ldif_load.specs.ldif_records.lines.Places.{IsPlace}
use Rattle.data_tests.proofs.reading.read_all.Given as goal

-- the place lies in the file
abbrev pub invariant-places : goal.invariant-places
invariant-places l = IsPlace l.text l.at

abbrev pub decreases-places : goal.decreases-places
decreases-places l = length l.text - l.at.offset
