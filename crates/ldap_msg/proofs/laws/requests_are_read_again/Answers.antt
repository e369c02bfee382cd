use Rattle.ldap_msg.specs.reading.Messages.{request_octets}
use Rattle.ldap_msg.proofs.Theorems.{message_complete, request_says}
use Rattle.ldap_msg.proofs.laws.requests_are_read_again.Goals as goal

pub returns : goal.returns
returns c = record { says = request_says; exact = λ message is. message_complete (request_octets message) message (request_says message is) }
