-- The law is proved of the definitions.
use Rattle.twin_laws.proofs.laws.TwinLaws.{is_below_suffix-same}
use Rattle.twin_laws.proofs.laws.twins_differ_below_one_suffix.Goals as goal

pub returns : goal.returns
returns c = is_below_suffix-same
