use Rattle.ldap_msg.proofs.Theorems.{whole_longest, whole_only}
use Rattle.ldap_msg.proofs.laws.messages_are_longest.Goals as goal

pub returns : goal.returns
returns c = record { found = whole_longest; only = whole_only }
