-- What is left has the same trimmed octets.
use Rattle.std.proofs.Common.{◌≡◌, ◌≤◌, ◌-◌, length, drop}
use Rattle.ber_elements.specs.Integer.{trimmed}
use Rattle.ber_elements.proofs.integer.spare_zeros.Given as goal

abbrev pub invariant-loop-spare : goal.invariant-loop-spare
invariant-loop-spare l = record {
  same : trimmed (drop l.spare l.octets) ≡ trimmed l.octets;
  bound : l.spare ≤ length l.octets;
}

abbrev pub decreases-loop-spare : goal.decreases-loop-spare
decreases-loop-spare l = length l.octets - l.spare
