-- Every other number is that of another code.
use Rattle.std.proofs.Common.{sym}
use Rattle.ldap_msg.proofs.operations.CodeLemmas.{other_back}
use Rattle.ldap_msg.proofs.operations.ResultCode.numbered.Goals as goal

pub returns-in_default-clause-exact : goal.returns-in_default-clause-exact
returns-in_default-clause-exact c = sym (other_back c.args.number _)
