use Rattle.std.proofs.Common.{arith}
use Rattle.command_files.proofs.loading.ChangeLemmas.{LoadsChanges-read, LoadsChanges-refused}
use Rattle.command_files.proofs.loading.load_changes.Goals as goal

-- the file of changes was read
pub returns-in-Ok-clause-exact : goal.returns-in-Ok-clause-exact
returns-in-Ok-clause-exact g c =
    LoadsChanges-read _ _ _ _ _ _ _ _ _ _ (omega (arith, c.in-Ok.ensures.fits)) c.as_slice.ensures.value c.in-Ok.ensures.ok c.in-Ok.ensures.cause c.read_changes.ensures.exact

-- it wasn't
pub returns-in-Err-clause-exact : goal.returns-in-Err-clause-exact
returns-in-Err-clause-exact g c = rw c.unread_changes.ensures.exact (LoadsChanges-refused _ _ _ _ _ _ _ _ c.in-Err.ensures.cause)
