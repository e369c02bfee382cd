use Rattle.fair_pieces.proofs.laws.FairLemmas.{cuts_joined}
use Rattle.fair_pieces.proofs.laws.cuts_join.Goals as goal

pub returns : goal.returns
returns c = cuts_joined
