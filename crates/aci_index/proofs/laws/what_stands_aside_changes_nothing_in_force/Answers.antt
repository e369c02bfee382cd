-- By the lemmas.
use Rattle.aci_index.proofs.laws.ForceLemmas.{in_force-put_some}
use Rattle.aci_index.proofs.laws.RowLemmas.{in_force-aside}
use Rattle.aci_index.proofs.laws.what_stands_aside_changes_nothing_in_force.Goals as goal

pub returns : goal.returns
returns c = record { put = in_force-put_some; numbered = in_force-aside }
