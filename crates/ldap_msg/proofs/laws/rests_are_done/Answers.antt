use Rattle.ldap_msg.proofs.Theorems.{whole_rest, rest_rest, broken_rest, rest_bound}
use Rattle.ldap_msg.proofs.laws.rests_are_done.Goals as goal

pub returns : goal.returns
returns c s = record { messages = whole_rest s; rest = rest_rest s; broken = broken_rest s; bound = rest_bound s }
