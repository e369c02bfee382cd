use Rattle.command_files.proofs.loading.LoadLemmas.{LoadsFile-read, LoadsFile-untaken, LoadsData-refused}
use Rattle.command_files.proofs.loading.load_file.Goals as goal

-- the file was read
pub returns-in-Ok-clause-exact : goal.returns-in-Ok-clause-exact
returns-in-Ok-clause-exact g c = LoadsFile-read _ _ _ _ _ _ _ c.in-Ok.ensures.ok c.in-Ok.ensures.cause c.read_file.ensures.exact

-- it wasn't
pub returns-in-Err-clause-exact : goal.returns-in-Err-clause-exact
returns-in-Err-clause-exact g c = rw c.unread_data.ensures.exact (LoadsFile-untaken _ _ _ _ _ (LoadsData-refused _ _ _ _ _ _ c.in-Err.ensures.cause))
