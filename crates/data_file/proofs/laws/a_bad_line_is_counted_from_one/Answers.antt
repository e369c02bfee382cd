use Rattle.data_file.proofs.laws.CountLemmas.{counted-fault}
use Rattle.data_file.proofs.laws.a_bad_line_is_counted_from_one.Goals as goal

pub returns : goal.returns
returns c = record { exact = counted-fault }
