-- By the theorems, over the laws of the rules and of changes.
use Rattle.change_replay.proofs.laws.MovedLemmas.{good-replayed}
use Rattle.change_replay.proofs.laws.a_good_tree_stays_good_when_replayed.Goals as goal

pub returns : goal.returns
returns c =
    let stays = c.a_tree_stays_good_in_place.ensures in
    let keeps = c.changes_keep_attributes_good.ensures in
    record {
      exact = λ entries left changes. good-replayed stays.moved keeps.renamed keeps.called stays.same keeps.changed keeps.name entries left changes;
    }
