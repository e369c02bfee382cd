use Rattle.command_files.specs.loading.Loading.{ReadsRequests}
use Rattle.command_files.proofs.loading.LoadLemmas.{ReadsRequests-refused}
use Rattle.command_files.proofs.loading.read_requests.Goals as goal

-- the text asks for something
pub returns-in-Ok : goal.returns-in-Ok
unfolding ReadsRequests
returns-in-Ok c = record { exact = (record { short = c.requires; read = c.in-Ok.ensures.exact }, c.in-Ok.ensures.sendable) }

-- it doesn't
pub returns-in-Err : goal.returns-in-Err
returns-in-Err c = record { exact = rw c.misread_asks.ensures.exact (ReadsRequests-refused _ _ c.requires c.in-Err.ensures.exact) }
