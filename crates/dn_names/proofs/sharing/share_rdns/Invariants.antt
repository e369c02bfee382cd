-- The RDNs stay what they were.
use Rattle.std.proofs.Common.{◌≡◌}
use Rattle.dn_names.specs.name.Names.{rdns_of}
use Rattle.dn_names.proofs.sharing.share_rdns.Given as goal

abbrev pub invariant-loop-index : goal.invariant-loop-index
invariant-loop-index l = rdns_of l.rdns ≡ rdns_of l.initial.rdns
