use Rattle.ldap_msg.proofs.Theorems.{code_back, number_back, code_bound}
use Rattle.ldap_msg.proofs.laws.codes_are_numbered.Goals as goal

pub returns : goal.returns
returns c = record { code = code_back; number = number_back; range = code_bound }
