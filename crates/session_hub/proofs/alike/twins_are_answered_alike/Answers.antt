use Rattle.session_hub.proofs.alike.TwinLemmas.{answer-twins}
use Rattle.session_hub.proofs.alike.twins_are_answered_alike.Goals as goal

pub returns : goal.returns
returns c = record { exact = answer-twins }
