-- The RDNs so far are there.
use Rattle.std.proofs.Common.{◌≡◌, ◌++◌, take}
use Rattle.dn_names.specs.name.Names.{rdns_of}
use Rattle.dn_names.proofs.name.append_rdns.Given as goal

abbrev pub invariant-loop-rdn : goal.invariant-loop-rdn
invariant-loop-rdn l = rdns_of l.out.items ≡ rdns_of l.initial.out.items ++ rdns_of (take l.rdn-index l.rdns)
