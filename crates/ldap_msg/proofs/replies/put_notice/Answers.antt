-- The notice's octets are those of the definition.
use Rattle.std.proofs.Common.{rules}
use Rattle.ber_elements.specs.Integer.{int_octets}
use Rattle.ber_elements.specs.write.Spelling.{length_octets}
use Rattle.ber_layout.specs.Spellings.{element_octets}
use Rattle.ldap_msg.specs.Replies.{reply_octets, notice_octets}
use Rattle.ldap_msg.proofs.replies.put_notice.Goals as goal

pub returns-clause-ok : goal.returns-clause-ok
unfolding notice_octets reply_octets element_octets int_octets length_octets
returns-clause-ok c = search rules
