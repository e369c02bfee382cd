use Rattle.command_files.proofs.loading.ChangeLemmas.{LoadsTree-alone, LoadsTree-untaken}
use Rattle.command_files.proofs.loading.load_unchanged.Goals as goal

-- the data file was loaded
pub returns-in-Ok-clause-exact : goal.returns-in-Ok-clause-exact
returns-in-Ok-clause-exact g c = LoadsTree-alone _ _ _ _ _ c.in-Ok.ensures.exact

-- it wasn't
pub returns-in-Err-clause-exact : goal.returns-in-Err-clause-exact
returns-in-Err-clause-exact g c = LoadsTree-untaken _ _ _ _ _ _ c.in-Err.ensures.exact
