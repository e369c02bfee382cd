use Rattle.session_hub.proofs.alike.TwinLemmas.{run-twins, replayed-twins}
use Rattle.session_hub.proofs.alike.runs_over_twins_are_alike.Goals as goal

pub returns : goal.returns
returns c = record { run = run-twins; replay = replayed-twins }
