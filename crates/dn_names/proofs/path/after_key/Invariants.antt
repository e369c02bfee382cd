-- What is left is asked of what is left of the octets.
use Rattle.std.proofs.Common.{◌≡◌, ◌≤◌, length}
use Rattle.dn_names.specs.path.PathReading.{after_from, after_key}
use Rattle.dn_names.proofs.path.after_key.Given as goal

abbrev pub invariant-loop-octet : goal.invariant-loop-octet
invariant-loop-octet l = record {
  exact : after_from l.zero l.rest ≡ after_key l.fn.octets;
  within : length l.rest ≤ length l.fn.octets;
}

abbrev pub decreases-loop-octet : goal.decreases-loop-octet
decreases-loop-octet l = length l.rest
