-- The pairs are those of the last RDN.
use Rattle.std.proofs.Common.{refl}
use Rattle.aci_item.specs.Rules.{lacks_own_value}
use Rattle.schema_rules.proofs.own.lacks_own_value.Goals as goal

pub returns : goal.returns
unfolding lacks_own_value
returns c = record {
  exact = rw (c.lacks_pair.ensures.exact, c.last_rdn.ensures.exact, c.name.ensures.exact) refl;
}
