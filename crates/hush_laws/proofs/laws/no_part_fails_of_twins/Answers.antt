-- The law is proved of the definitions.
use Rattle.hush_laws.proofs.laws.TwinLemmas.{twins-from_none, none-from_twins}
use Rattle.hush_laws.proofs.laws.no_part_fails_of_twins.Goals as goal

pub returns : goal.returns
returns c = record { exact = λ top before now who tree below. (twins-from_none top before now who tree below, none-from_twins top before now who) }
