use Rattle.ldap_msg.proofs.Theorems.{reply_some}
use Rattle.ldap_msg.proofs.laws.replies_have_octets.Goals as goal

pub returns : goal.returns
returns c = reply_some
