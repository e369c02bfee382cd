-- The law is proved of the definitions.
use Rattle.value_index.proofs.laws.HolderLaws.{holder-posted}
use Rattle.value_index.proofs.laws.a_holder_is_posted.Goals as goal

pub returns : goal.returns
returns c = record { exact = holder-posted }
