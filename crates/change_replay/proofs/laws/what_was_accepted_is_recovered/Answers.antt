-- By the theorems, over the laws above and that of files of changes.
use Rattle.change_replay.proofs.laws.RecoveredLemmas.{recovered-cut}
use Rattle.change_replay.proofs.laws.what_was_accepted_is_recovered.Goals as goal

pub returns : goal.returns
returns c =
    let applies = c.what_was_accepted_is_applied.ensures in
    record {
      exact = recovered-cut applies.deleted applies.added applies.modified applies.renamed c.what_was_accepted_can_be_written.ensures.exact c.a_file_of_changes_is_read_again.ensures.cut;
    }
