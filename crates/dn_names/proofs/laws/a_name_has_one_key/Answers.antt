-- By the theorems.
use Rattle.dn_names.proofs.Theorems.{is_same-name_key}
use Rattle.dn_names.proofs.laws.a_name_has_one_key.Goals as goal

pub returns : goal.returns
returns c = is_same-name_key
