use Rattle.command_files.proofs.loading.LoadLemmas.{LoadsRequests-read, LoadsRequests-refused}
use Rattle.command_files.proofs.loading.load_asks.Goals as goal

-- the file was read
pub returns-in-Ok-clause-exact : goal.returns-in-Ok-clause-exact
returns-in-Ok-clause-exact g c = LoadsRequests-read _ _ _ _ _ _ _ _ c.as_slice.ensures.value c.in-Ok.ensures.ok c.in-Ok.ensures.cause c.read_requests.ensures.exact

-- it wasn't
pub returns-in-Err-clause-exact : goal.returns-in-Err-clause-exact
returns-in-Err-clause-exact g c = rw c.unread.ensures.exact (LoadsRequests-refused _ _ _ _ _ _ c.in-Err.ensures.cause)
