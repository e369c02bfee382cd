-- What is cut off of a good name is good.
use Rattle.dn_names.specs.name.Names.{rdns_of}
use Rattle.dn_names.proofs.name.NameLaws.{IsGoodName-drop}
use Rattle.dn_names.proofs.joining.copy_from.Goals as goal

pub from_rdns-requires : goal.from_rdns-requires
from_rdns-requires c = record {
  good = rw (c.in_ok-rdns_from.ensures.ok, c.deref.ensures.value) (IsGoodName-drop c.args.first (rdns_of c.name.inside.rdns.items) c.name.invariant.good);
}
