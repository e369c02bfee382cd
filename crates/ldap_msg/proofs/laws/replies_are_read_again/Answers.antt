use Rattle.ldap_msg.specs.Replies.{reply_octets}
use Rattle.ldap_msg.proofs.Theorems.{reply_is_complete, answer_says}
use Rattle.ldap_msg.proofs.laws.replies_are_read_again.Goals as goal

pub returns : goal.returns
returns c = record { says = answer_says; exact = λ id reply is. reply_is_complete (reply_octets id reply) id reply (answer_says id reply is) }
