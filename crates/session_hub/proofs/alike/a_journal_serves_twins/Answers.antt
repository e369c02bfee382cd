use Rattle.session_hub.proofs.alike.TwinLemmas.{served-twins, sound-twins}
use Rattle.session_hub.proofs.alike.a_journal_serves_twins.Goals as goal

pub returns : goal.returns
returns c = record { served = served-twins; sound = sound-twins }
