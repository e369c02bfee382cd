use Rattle.mio_link.proofs.laws.TurnLemmas.{each_has_its_turn}
use Rattle.mio_link.proofs.laws.each_place_has_its_turn.Goals as goal

pub returns : goal.returns
returns c = record { law = each_has_its_turn }
