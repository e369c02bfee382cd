-- The octets left complete the number so far, which is below what so many octets can spell.
use Rattle.std.proofs.Common.{◌≡◌, ◌<◌, ◌+◌, ◌*◌, ◌^◌, drop}
use Rattle.ber_elements.specs.write.Element.{number_after}
use Rattle.ber_elements.proofs.number.number_of.Given as goal

abbrev pub invariant-loop-octet : goal.invariant-loop-octet
invariant-loop-octet l = record {
  value : number_after l.number (drop l.octet-index l.octets) ≡ number_after l.first l.octets;
  bound : l.number < (l.first + 1) * 256 ^ l.octet-index;
}
