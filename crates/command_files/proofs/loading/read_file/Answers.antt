use Rattle.std.proofs.Common.{refl}
use Rattle.command_files.specs.loading.Loading.{ReadsFile}
use Rattle.command_files.proofs.loading.read_file.Goals as goal

-- the data file is accepted
pub returns-in-Ok : goal.returns-in-Ok
unfolding ReadsFile
returns-in-Ok c = record { exact = (refl, rw c.as_slice.ensures.value at c.in-Ok.ensures.exact) }

-- it isn't
pub returns-in-Err : goal.returns-in-Err
unfolding ReadsFile
returns-in-Err c = record { exact = rw c.as_slice.ensures.value at c.in-Err.ensures.exact }
