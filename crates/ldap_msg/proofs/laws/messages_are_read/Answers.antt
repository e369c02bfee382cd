use Rattle.ldap_msg.proofs.Theorems.{message_sound, message_complete}
use Rattle.ldap_msg.proofs.laws.messages_are_read.Goals as goal

pub returns : goal.returns
returns c = record { found = λ message bytes. message_sound bytes message; only = λ message bytes. message_complete bytes message }
