-- Spaces that are skipped change nothing of what stands after them.
use Rattle.std.proofs.Common.{◌≡◌, length}
use Rattle.dn_names.specs.Reading.{without_spaces}
use Rattle.dn_names.proofs.octets.skip_spaces.Given as goal

abbrev pub invariant-loop-rest : goal.invariant-loop-rest
invariant-loop-rest l = without_spaces l.rest ≡ without_spaces l.text

abbrev pub decreases-loop-rest : goal.decreases-loop-rest
decreases-loop-rest l = length l.rest
