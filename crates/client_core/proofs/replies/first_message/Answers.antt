use Rattle.std.proofs.Common.{sym}
use Rattle.ldap_msg.proofs.Theorems.{whole_more, whole_bad}
use Rattle.client_core.proofs.replies.first_message.Goals as goal

-- less than a message is there
pub returns-in-More-clause-none : goal.returns-in-More-clause-none
returns-in-More-clause-none c = whole_more _ (sym c.in-More.ensures.exact)

-- what is there is no message
pub returns-in-Bad-clause-none : goal.returns-in-Bad-clause-none
returns-in-Bad-clause-none c = whole_bad _ (sym c.in-Bad.ensures.exact)
