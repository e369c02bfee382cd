use Rattle.std.proofs.Common.{Some, ap}
use Rattle.session_model.specs.ldap_msg.declared.kinds.Message.{Message}
use Rattle.dir_tree.specs.tree.Numbered.{entries_of}
use Rattle.session_hub.proofs.messages.AnswerLemmas.{answered_as, refused_as, short_as, short_notice}
use Rattle.session_hub.proofs.messages.answer_any.Goals as goal

-- the content says a message
pub returns-in-Ok-clause-ok : goal.returns-in-Ok-clause-ok
returns-in-Ok-clause-ok g c =
    answered_as c.args.allowed.terms c.answer_message.result _ _ (entries_of (g.D.Dir.rows c.args.dir.now)) (entries_of (g.D.Dir.rows c.answer_message.new.dir)) _ _ _ _ _ c.in-Ok.ensures (ap (λ (message : Message). Some message) c.limit_message.ensures) c.answer_message.ensures.ok

pub returns-in-Ok-clause-short : goal.returns-in-Ok-clause-short
returns-in-Ok-clause-short g c =
    short_as c.args.allowed.terms c.answer_message.result _ _ (entries_of (g.D.Dir.rows c.args.dir.now)) _ _ c.in-Ok.ensures (ap (λ (message : Message). Some message) c.limit_message.ensures) c.answer_message.ensures.short

-- it says none
pub returns-in-Err-BadMessage-clause-ok : goal.returns-in-Err-BadMessage-clause-ok
returns-in-Err-BadMessage-clause-ok g c =
    refused_as c.args.allowed.terms c.refuse_octets.result (entries_of (g.D.Dir.rows c.args.dir.now)) _ _ _ _ c.args.out.now.changes.items (rw c.in-Err-BadMessage.field-0-is at c.in-Err-BadMessage.ensures) c.refuse_octets.ensures.ok

pub returns-in-Err-BadMessage-clause-short : goal.returns-in-Err-BadMessage-clause-short
returns-in-Err-BadMessage-clause-short g c =
    short_notice c.args.allowed.terms c.refuse_octets.result (entries_of (g.D.Dir.rows c.args.dir.now)) _ _ (rw c.in-Err-BadMessage.field-0-is at c.in-Err-BadMessage.ensures)
