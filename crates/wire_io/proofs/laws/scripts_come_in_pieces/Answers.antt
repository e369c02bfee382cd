use Rattle.wire_io.proofs.laws.LawLemmas.{first_events-pieces}
use Rattle.wire_io.proofs.laws.scripts_come_in_pieces.Goals as goal

pub returns : goal.returns
returns c = record { law = λ count most len events. first_events-pieces count most len events }
