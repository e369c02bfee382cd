use Rattle.std.proofs.Common.{arith}
use Rattle.command_files.proofs.loading.LoadLemmas.{LoadsContent-read, LoadsContent-refused}
use Rattle.command_files.proofs.loading.load_content.Goals as goal

-- the file was read
pub returns-in-Ok-clause-exact : goal.returns-in-Ok-clause-exact
returns-in-Ok-clause-exact g c = LoadsContent-read _ _ _ _ _ (omega (arith, c.in-Ok.ensures.fits)) c.in-Ok.ensures.ok c.in-Ok.ensures.cause

-- it wasn't
pub returns-in-Err-clause-exact : goal.returns-in-Err-clause-exact
returns-in-Err-clause-exact g c = rw c.unread_data.ensures.exact (LoadsContent-refused _ _ _ _ _ _ c.in-Err.ensures.cause)
