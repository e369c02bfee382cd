use Rattle.ldif_load.proofs.laws.FileLemmas.{begins_without_entries, is_bad_without_a_record}
use Rattle.ldif_load.proofs.laws.a_file_begins_with_a_record.Goals as goal

pub returns : goal.returns
returns c = record { first = begins_without_entries; empty = is_bad_without_a_record }
