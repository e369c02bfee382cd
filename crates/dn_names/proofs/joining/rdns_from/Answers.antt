-- The RDNs of the vector from one on.
use Rattle.dn_names.proofs.joining.NameOrderLemmas.{rdns_of-drop}
use Rattle.dn_names.proofs.joining.rdns_from.Goals as goal

pub returns : goal.returns
returns c = record {
  ok = rw (← rdns_of-drop c.args.first c.args.rdns.now, ← c.min.ensures, ← c.split_at.ensures.back) c.copy_rdns.ensures.ok;
}
