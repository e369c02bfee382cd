use Rattle.ldap_msg.proofs.Theorems.{whole_step, rest_step, broken_step, whole_more, rest_more, broken_more, whole_bad, rest_bad, broken_bad}
use Rattle.ldap_msg.proofs.laws.streams_step.Goals as goal

pub returns : goal.returns
returns c = record {
  whole = λ s n e. record { messages = whole_step s n e; rest = rest_step s n e; broken = broken_step s n e };
  more = λ s e. record { messages = whole_more s e; rest = rest_more s e; is = broken_more s e };
  bad = λ s e. record { messages = whole_bad s e; rest = rest_bad s e; is = broken_bad s e };
}
