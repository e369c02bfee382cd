-- Line by line, each value is of the octets of the file.
use Rattle.data_file.proofs.laws.JoinLemmas.{loadable-loads}
use Rattle.data_file.proofs.laws.what_is_loaded_is_loadable.Goals as goal

pub returns : goal.returns
returns c = record { exact = loadable-loads }
