-- By the theorem.
use Rattle.crash_laws.proofs.laws.AskedLemmas.{message-octets}
use Rattle.crash_laws.proofs.laws.a_message_of_octets_asks_with_octets.Goals as goal

pub returns : goal.returns
returns c = record { exact = message-octets }
