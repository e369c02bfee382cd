-- The library tells whether octets are UTF-8.
use Rattle.text_stops.proofs.words.WordLemmas.{is_text, no_text}
use Rattle.text_stops.proofs.standing.is_text.Goals as goal

pub returns-in-Ok : goal.returns-in-Ok
returns-in-Ok c = record { exact = is_text c.args.octets.now c.in-Ok.ensures.cases.1 }

pub returns-in-Err : goal.returns-in-Err
returns-in-Err c = record { exact = no_text c.args.octets.now c.in-Err.ensures.cases.0 }
