-- What is computed is what the octets say, and the only such message.
use Rattle.ldap_msg.proofs.reading.MessageLemmas.{found_by, only_by}
use Rattle.ldap_msg.proofs.reading.read_request.Goals as goal

pub returns-clause-found : goal.returns-clause-found
returns-clause-found c = found_by c.args.bytes.now c.message.result c.message.ensures

pub returns-clause-only : goal.returns-clause-only
returns-clause-only c other says = only_by c.args.bytes.now c.message.result other says c.message.ensures
