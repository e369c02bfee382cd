-- Each change leaves loadable values, and a good tree.
use Rattle.loading_laws.proofs.laws.ChangeLemmas.{added-loadable, deleted-loadable, modified-loadable, renamed-loadable, outcome-loadable}
use Rattle.loading_laws.proofs.laws.a_loadable_tree_stays_loadable.Goals as goal

pub returns : goal.returns
returns c =
    let done = c.exactly_what_may_be_done_is_done.ensures in
    let changed = c.exactly_what_may_be_changed_is_changed.ensures in
    record {
      exact =
          outcome-loadable (added-loadable done.added done.only_added) (deleted-loadable done.deleted done.only_deleted)
          (modified-loadable changed.modified changed.only_modified)
          (renamed-loadable changed.renamed changed.only_renamed) c.a_good_tree_stays_good.ensures.added
          c.a_good_tree_stays_good.ensures.deleted c.a_good_tree_stays_good_when_changed.ensures.modified c.a_good_tree_stays_good_when_changed.ensures.renamed;
    }
