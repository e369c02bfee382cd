-- By the theorems, over the laws of the rules and of changes.
use Rattle.change_laws.proofs.laws.ModifyLemmas.{good-modified}
use Rattle.change_laws.proofs.laws.RenameLemmas.{good-renamed}
use Rattle.change_laws.proofs.laws.a_good_tree_stays_good_when_changed.Goals as goal

pub returns : goal.returns
returns c =
    let stays = c.a_tree_stays_good_in_place.ensures in
    let keeps = c.changes_keep_attributes_good.ensures in
    record {
      modified = good-modified stays.same keeps.changed keeps.name;
      renamed = good-renamed stays.moved keeps.renamed keeps.called;
    }
