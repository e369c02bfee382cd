use Rattle.ldap_msg.proofs.Theorems.{reply_is_sound, reply_is_complete}
use Rattle.ldap_msg.proofs.laws.replies_are_read.Goals as goal

pub returns : goal.returns
returns c = record { found = λ id reply bytes. reply_is_sound bytes (id, reply); only = λ id reply bytes. reply_is_complete bytes id reply }
