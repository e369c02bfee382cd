-- By the lemmas.
use Rattle.admin_scope.proofs.laws.TakenLemmas.{areas-taken, in_force-taken}
use Rattle.admin_scope.proofs.laws.an_entry_taken_out_changes_no_area_beside_it.Goals as goal

pub returns : goal.returns
returns c = record { areas = areas-taken; in_force = in_force-taken }
