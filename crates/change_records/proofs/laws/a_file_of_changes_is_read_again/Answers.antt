use Rattle.change_records.proofs.laws.FileLemmas.{file-read}
use Rattle.change_records.proofs.laws.CutLemmas.{file-cut}
use Rattle.change_records.proofs.laws.a_file_of_changes_is_read_again.Goals as goal

pub returns : goal.returns
returns c = record { exact = file-read; cut = file-cut }
