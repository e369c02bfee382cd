-- The RDNs of the vectors are those of the name.
use Rattle.dn_names.proofs.printing.printed.Goals as goal

pub returns : goal.returns
returns c = record {
  ok = rw (← c.name.view_is, ← c.deref.ensures.value) (rw c.new-out.ensures.items at c.in_ok-put_rdns.ensures.ok);
  text = rw (← c.name.view_is, ← c.deref.ensures.value) c.in_ok-put_rdns.ensures.text;
}
