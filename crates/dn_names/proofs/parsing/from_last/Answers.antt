-- The RDNs of the vector from the last to the first.
use Rattle.dn_names.proofs.resolve.ResolveLemmas.{rdns_of-reverse}
use Rattle.dn_names.proofs.parsing.from_last.Goals as goal

pub from_rdns-requires : goal.from_rdns-requires
from_rdns-requires c = record { good = rw (c.reverse.ensures.items, rdns_of-reverse c.args.rdns.items) c.requires }

pub returns : goal.returns
returns c = record { ok = rw (← rdns_of-reverse c.args.rdns.items, ← c.reverse.ensures.items) c.from_rdns.ensures.ok }
