-- What is put and what is left are the key with its end.
use Rattle.std.proofs.Common.{◌≡◌, ◌++◌, drop}
use Rattle.dn_names.specs.path.PathKeys.{escape}
use Rattle.dn_names.proofs.path.put_each.Given as goal

abbrev pub invariant-loop-octet : goal.invariant-loop-octet
invariant-loop-octet l = l.out.items ++ escape (drop l.octet-index l.octets) ≡ l.initial.out.items ++ escape l.octets
