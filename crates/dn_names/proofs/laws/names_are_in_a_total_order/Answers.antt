-- By the theorems.
use Rattle.dn_names.proofs.Theorems.{name_cmp_total, is_same-types_and_keys, is_prefix_of-types_and_keys, name_cmp-prefix}
use Rattle.dn_names.proofs.laws.names_are_in_a_total_order.Goals as goal

pub returns : goal.returns
returns c = record {
  order = name_cmp_total;
  same = is_same-types_and_keys;
  prefix = is_prefix_of-types_and_keys;
  first = name_cmp-prefix;
}
