use Rattle.command_files.specs.loading.Loading.{ReadsScript}
use Rattle.command_files.proofs.loading.LoadLemmas.{ReadsScript-refused}
use Rattle.command_files.proofs.loading.read_script.Goals as goal

-- the text is a script
pub returns-in-Ok : goal.returns-in-Ok
unfolding ReadsScript
returns-in-Ok c = record { exact = (record { short = c.requires; script = c.in-Ok.ensures.ok }, c.in-Ok.ensures.fresh) }

-- it isn't
pub returns-in-Err : goal.returns-in-Err
returns-in-Err c = record { exact = rw c.misread.ensures.exact (ReadsScript-refused _ _ c.requires c.in-Err.ensures.exact) }
