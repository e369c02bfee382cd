-- By the theorems.
use Rattle.change_laws.proofs.laws.DeleteLemmas.{good-deleted}
use Rattle.change_laws.proofs.laws.AddLemmas.{good-added}
use Rattle.change_laws.proofs.laws.a_good_tree_stays_good.Goals as goal

pub returns : goal.returns
returns c = record { deleted = good-deleted; added = good-added }
