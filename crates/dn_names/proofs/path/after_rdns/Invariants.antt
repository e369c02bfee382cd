-- What is left is the path key of the RDNs that are left.
use Rattle.std.proofs.Common.{◌≡◌, ◌≤◌, length, drop}
use Rattle.dn_names.specs.name.Names.{RdnSequence}
use Rattle.dn_names.specs.path.PathKeys.{path_key}
use Rattle.dn_names.proofs.path.after_rdns.Given as goal

abbrev pub invariant-loop-taken : goal.invariant-loop-taken
invariant-loop-taken l = (name : RdnSequence) → l.fn.path ≡ path_key name → l.fn.count ≤ length name → l.rest ≡ path_key (drop l._taken name)
