use Rattle.std.proofs.Common.{◌≡◌, ◌+◌, ◌-◌, ◌≤◌, length, drop}
use Rattle.fair_pieces.specs.Cuts.{front_of}
use Rattle.fair_pieces.proofs.cuts.front.Given as goal

-- what was read so far, and the front of the rest, is the front
abbrev pub invariant-messages : goal.invariant-messages
invariant-messages l = record {
  within : l.read ≤ length l.octets;
  so_far : front_of l.octets ≡ l.read + front_of (drop l.read l.octets);
}

abbrev pub decreases-messages : goal.decreases-messages
decreases-messages l = length l.octets - l.read
