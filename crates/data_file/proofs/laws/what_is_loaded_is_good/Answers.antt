-- Record by record, a good entry joins good ones.
use Rattle.data_file.proofs.laws.GoodLemmas.{good-loads}
use Rattle.data_file.proofs.laws.what_is_loaded_is_good.Goals as goal

pub returns : goal.returns
returns c = record { exact = good-loads }
