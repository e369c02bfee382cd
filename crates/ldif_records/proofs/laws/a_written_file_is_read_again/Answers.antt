use Rattle.ldif_records.proofs.laws.RereadLemmas.{file-reread, entry-reread}
use Rattle.ldif_records.proofs.laws.a_written_file_is_read_again.Goals as goal

pub returns : goal.returns
returns c = record { file = file-reread; entry = entry-reread }
