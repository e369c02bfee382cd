-- By the theorems.
use Rattle.dn_names.proofs.Theorems.{octets_cmp-path_key, is_prefix_of-path_key}
use Rattle.dn_names.proofs.laws.path_keys_compare_as_names.Goals as goal

pub returns : goal.returns
returns c = record { order = octets_cmp-path_key; prefix = is_prefix_of-path_key }
