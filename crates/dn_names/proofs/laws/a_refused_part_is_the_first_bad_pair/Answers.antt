-- By the theorems.
use Rattle.dn_names.proofs.Theorems.{resolve-Part, resolve-TooMany, resolve-Ok}
use Rattle.dn_names.proofs.laws.a_refused_part_is_the_first_bad_pair.Goals as goal

pub returns : goal.returns
returns c = record { part = resolve-Part; too_many = resolve-TooMany; ok = resolve-Ok }
