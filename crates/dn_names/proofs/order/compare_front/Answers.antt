-- Path keys compare as names do.
use Rattle.std.proofs.Common.{◌∙◌, take}
use Rattle.dn_names.proofs.order.PathKeyLaws.{octets_cmp-path_key}
use Rattle.dn_names.proofs.order.compare_front.Goals as goal

pub returns : goal.returns
returns c = record {
  exact = c.cmp.ensures ∙ rw (c.front_path.ensures.exact, c.as_slice.ensures.value, c.path.ensures.exact) (octets_cmp-path_key (take c.args.len c.args.name.now) c.args.other.now);
}
