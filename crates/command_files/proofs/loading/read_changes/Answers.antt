use Rattle.command_files.specs.loading.Loading.{ReadsChanges}
use Rattle.command_files.proofs.loading.ChangeLemmas.{ReadsChanges-refused}
use Rattle.command_files.proofs.loading.read_changes.Goals as goal

-- the changes were applied
pub returns-in-Ok : goal.returns-in-Ok
unfolding ReadsChanges
returns-in-Ok c = record { exact = (c.in-Ok.ensures.exact, c.in-Ok.ensures.good) }

-- they weren't
pub returns-in-Err : goal.returns-in-Err
returns-in-Err c = record { exact = rw c.misread_changes.ensures.exact (ReadsChanges-refused _ _ _ _ c.in-Err.ensures.exact) }
