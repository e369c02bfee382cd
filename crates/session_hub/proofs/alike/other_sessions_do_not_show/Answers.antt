use Rattle.session_hub.proofs.alike.TwinLemmas.{run-purged-twins, replayed-purged-twins, taken-purged-twins}
use Rattle.session_hub.proofs.alike.other_sessions_do_not_show.Goals as goal

pub returns : goal.returns
returns c = record { exact = run-purged-twins; replay = replayed-purged-twins; taken = taken-purged-twins }
