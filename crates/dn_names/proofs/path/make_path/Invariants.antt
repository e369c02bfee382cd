-- What is put and the path key of the RDNs that are left are the path key.
use Rattle.std.proofs.Common.{◌≡◌, ◌++◌, drop}
use Rattle.dn_names.specs.name.Names.{rdns_of}
use Rattle.dn_names.specs.path.PathKeys.{path_key}
use Rattle.dn_names.proofs.path.make_path.Given as goal

abbrev pub invariant-loop-rdn : goal.invariant-loop-rdn
invariant-loop-rdn l = l.path.items ++ path_key (rdns_of (drop l.rdn-index l.rdns)) ≡ path_key (rdns_of l.rdns)
