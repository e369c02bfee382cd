-- What is computed is what the octets say, and the only such reply.
use Rattle.ldap_msg.proofs.replies.AnswerLemmas.{found_by, only_by}
use Rattle.ldap_msg.proofs.replies.read_reply.Goals as goal

pub returns-clause-found : goal.returns-clause-found
returns-clause-found c = found_by c.args.bytes.now c.message.result c.message.ensures

pub returns-clause-only : goal.returns-clause-only
returns-clause-only c id other says = only_by c.args.bytes.now c.message.result id other says c.message.ensures
