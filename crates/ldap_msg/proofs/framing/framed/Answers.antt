-- The content is the one of the outer element.
use Rattle.ldap_msg.proofs.framing.HeadLemmas.{content_by}
use Rattle.ldap_msg.proofs.framing.framed.Goals as goal

pub returns-clause-content : goal.returns-clause-content
returns-clause-content c = content_by c.args.bytes.now c.framing.result c.framing.ensures.frame c.framing.ensures.head
