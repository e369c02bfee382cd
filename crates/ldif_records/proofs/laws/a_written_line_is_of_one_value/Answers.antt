use Rattle.ldif_records.proofs.laws.RereadLemmas.{value-reread}
use Rattle.ldif_records.proofs.laws.a_written_line_is_of_one_value.Goals as goal

pub returns : goal.returns
returns c = record { only = value-reread }
