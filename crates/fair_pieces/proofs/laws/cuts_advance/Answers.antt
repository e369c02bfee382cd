use Rattle.fair_pieces.proofs.laws.AdvanceLemmas.{advances}
use Rattle.fair_pieces.proofs.laws.cuts_advance.Goals as goal

pub returns : goal.returns
returns c = advances
