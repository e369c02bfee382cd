-- The empty name is good, and its path key has no octet.
use Rattle.dn_names.proofs.path.PathLemmas.{kept_empty}
use Rattle.dn_names.proofs.name.Dn.empty.Goals as goal

pub invariant_of-result : goal.invariant_of-result
invariant_of-result c = kept_empty c.new.result.items c.new-2.result.items c.new.ensures.items c.new-2.ensures.items
