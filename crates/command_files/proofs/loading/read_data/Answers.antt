use Rattle.command_files.specs.loading.Loading.{ReadsData}
use Rattle.command_files.proofs.loading.LoadLemmas.{ReadsData-refused}
use Rattle.command_files.proofs.loading.read_data.Goals as goal

-- the text is accepted
pub returns-in-Ok : goal.returns-in-Ok
unfolding ReadsData
returns-in-Ok c = record { exact = (record { short = c.requires; loaded = c.in-Ok.ensures.ok }, c.in-Ok.ensures.good) }

-- it isn't
pub returns-in-Err : goal.returns-in-Err
returns-in-Err c = record { exact = rw c.misread_data.ensures.exact (ReadsData-refused _ _ c.requires c.in-Err.ensures.bad) }
