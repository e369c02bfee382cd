use Rattle.change_records.proofs.laws.KnownLemmas.{known-written}
use Rattle.change_records.proofs.laws.known_types_can_be_written.Goals as goal

pub returns : goal.returns
returns c = record { exact = known-written }
