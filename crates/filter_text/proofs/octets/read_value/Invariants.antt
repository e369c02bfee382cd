-- The octets so far and those that what is left stands for are the octets of the whole.
use Rattle.std.proofs.Common.{◌≡◌, ◌++◌, drop}
use Rattle.filter_text.specs.declared.octets.Reading.TheVariants.{Plain}
use Rattle.filter_text.specs.Items.{octets_from}
use Rattle.filter_text.proofs.octets.read_value.Given as goal

abbrev pub invariant-loop-octet : goal.invariant-loop-octet
invariant-loop-octet l = l.octets.items ++ octets_from l.reading (drop l.octet-index l.text) ≡ octets_from Plain l.text
