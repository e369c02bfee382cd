-- The RDNs so far and those of what is left are the name's.
use Rattle.std.proofs.Common.{◌≡◌, ◌≤◌, ◌+◌, length}
use Rattle.dn_names.specs.name.Names.{rdns_of}
use Rattle.dn_names.proofs.resolve.ResolveLemmas.{after_rdns, rdns_at}
use Rattle.dn_names.proofs.parsing.read_rdns.Given as goal

abbrev pub invariant-rdns : goal.invariant-rdns
invariant-rdns l = record {
  exact : after_rdns (rdns_of l.rdns.items) (rdns_at l.index l.rest) ≡ rdns_at 0 l.fn.text;
  fits : l.index + length l.rest ≤ length l.fn.text;
}

abbrev pub decreases-rdns : goal.decreases-rdns
decreases-rdns l = length l.rest
