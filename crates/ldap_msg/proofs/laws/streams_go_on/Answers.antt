use Rattle.ldap_msg.proofs.Theorems.{whole_append, rest_append, whole_nil, rest_nil}
use Rattle.ldap_msg.proofs.laws.streams_go_on.Goals as goal

pub returns : goal.returns
returns c = record {
  grows = λ s piece. record { messages = whole_append s piece; rest = rest_append s piece };
  no_messages = whole_nil;
  no_rest = rest_nil;
}
