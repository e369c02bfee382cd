-- Path keys compare as names do.
use Rattle.std.proofs.Common.{◌∙◌}
use Rattle.dn_names.proofs.order.PathKeyLaws.{octets_cmp-path_key}
use Rattle.dn_names.proofs.order.compare_names.Goals as goal

pub returns : goal.returns
returns c = record {
  exact = c.cmp.ensures ∙ rw (c.as_slice.ensures.value, c.path.ensures.exact, c.as_slice-2.ensures.value, c.path-2.ensures.exact) (octets_cmp-path_key c.args.one.now c.args.other.now);
}
