use Rattle.client_core.proofs.scripts.ScriptLemmas.{script_read}
use Rattle.client_core.proofs.laws.requests_are_sent_by_their_script.Goals as goal

pub returns : goal.returns
returns c = record { exact = script_read }
