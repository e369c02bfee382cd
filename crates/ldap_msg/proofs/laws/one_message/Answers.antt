-- Both are the message that is read.
use Rattle.ldap_msg.proofs.Theorems.{message_complete}
use Rattle.ldap_msg.proofs.laws.one_message.Goals as goal

pub returns : goal.returns
returns c message other bytes says says' =
    let one = message_complete bytes message says in
    let two = message_complete bytes other says' in
    cc
