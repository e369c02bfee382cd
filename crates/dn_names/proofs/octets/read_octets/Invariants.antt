-- The octets so far and those of what is left are the value's: where nothing but spaces is left, those that are kept.
use Rattle.std.proofs.Common.{◌≡◌, ◌≤◌, length, drop}
use Rattle.dn_names.specs.declared.octets.Reading.TheVariants.{Plain}
use Rattle.dn_names.specs.Reading.{octets_from}
use Rattle.dn_names.proofs.octets.OctetsLemmas.{ended}
use Rattle.dn_names.proofs.octets.read_octets.Given as goal

abbrev pub invariant-loop-octet : goal.invariant-loop-octet
invariant-loop-octet l = record {
  within : l.kept ≤ length l.octets.items;
  exact : ended l.kept l.octets.items (octets_from l.reading (drop l.octet-index l.text)) ≡ octets_from Plain l.text;
}
