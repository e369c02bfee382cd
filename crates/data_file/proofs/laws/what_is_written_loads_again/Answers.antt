-- Record by record, each entry joins those before it.
use Rattle.data_file.proofs.laws.LoadLemmas.{loads-written_file}
use Rattle.data_file.proofs.laws.what_is_written_loads_again.Goals as goal

pub returns : goal.returns
returns c = record { exact = loads-written_file }
