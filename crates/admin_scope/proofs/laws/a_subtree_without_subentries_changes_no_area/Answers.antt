-- By the lemmas.
use Rattle.admin_scope.proofs.laws.WithoutLemmas.{areas-without, in_force-without}
use Rattle.admin_scope.proofs.laws.a_subtree_without_subentries_changes_no_area.Goals as goal

pub returns : goal.returns
returns c = record { areas = areas-without; in_force = in_force-without }
