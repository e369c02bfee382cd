-- Numbers that are distinct stand once each.
use Rattle.event_replay.proofs.laws.OnceLemmas.{openings-played}
use Rattle.event_replay.proofs.laws.an_event_opens_once.Goals as goal

pub returns : goal.returns
returns c = record { exact = openings-played }
