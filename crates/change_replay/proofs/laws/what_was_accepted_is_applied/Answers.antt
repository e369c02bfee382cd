-- By the theorems, over the laws of what may be done.
use Rattle.change_replay.proofs.laws.AppliedLemmas.{applied-deleted, applied-added}
use Rattle.change_replay.proofs.laws.ChangedLemmas.{applied-modified, applied-renamed}
use Rattle.change_replay.proofs.laws.what_was_accepted_is_applied.Goals as goal

pub returns : goal.returns
returns c =
    let done = c.exactly_what_may_be_done_is_done.ensures in
    let changed = c.exactly_what_may_be_changed_is_changed.ensures in
    record {
      deleted = applied-deleted done.deleted done.only_deleted;
      added = applied-added done.added done.only_added;
      modified = applied-modified changed.modified changed.only_modified;
      renamed = applied-renamed changed.renamed changed.only_renamed;
    }
