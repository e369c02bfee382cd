-- The octets so far are turned, and those behind are as they were.
use Rattle.std.proofs.Common.{◌≡◌, ◌++◌, take, drop}
use Rattle.ber_elements.specs.Integer.{turned}
use Rattle.ber_elements.proofs.integer.turn.Given as goal

abbrev pub invariant-loop-octet : goal.invariant-loop-octet
invariant-loop-octet l = l.octets ≡ turned (take l.octet-index l.initial.octets) ++ drop l.octet-index l.initial.octets
