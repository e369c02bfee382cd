-- By the theorem.
use Rattle.crash_laws.proofs.laws.GoingLemmas.{head_written}
use Rattle.crash_laws.proofs.laws.a_file_begins_with_its_head.Goals as goal

pub returns : goal.returns
returns c = record { exact = head_written }
