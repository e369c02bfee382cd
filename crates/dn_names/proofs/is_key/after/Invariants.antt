-- What is left of the front is asked of what is left of the octets.
use Rattle.std.proofs.Common.{◌≡◌, drop}
use Rattle.dn_names.specs.KeyReading.{strip}
use Rattle.dn_names.proofs.is_key.after.Given as goal

abbrev pub invariant-loop-octet : goal.invariant-loop-octet
invariant-loop-octet l = strip (drop l.octet-index l.front) l.rest ≡ strip l.front l.octets
