-- What is put and what is left are the RDN's part.
use Rattle.std.proofs.Common.{◌≡◌, ◌++◌, drop}
use Rattle.dn_names.specs.path.PathKeys.{rdn_part}
use Rattle.dn_names.proofs.path.put_rdn.Given as goal

abbrev pub invariant-loop-pair : goal.invariant-loop-pair
invariant-loop-pair l = l.out.items ++ rdn_part (drop l.pair-index l.rdn) ≡ l.initial.out.items ++ rdn_part l.rdn
