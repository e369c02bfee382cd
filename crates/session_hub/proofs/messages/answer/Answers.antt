use Rattle.std.proofs.Common.{Some, refl}
use Rattle.dir_tree.specs.tree.Numbered.{entries_of}
use Rattle.session_hub.specs.SimpleBinds.{message_for}
use Rattle.session_hub.proofs.messages.AnswerLemmas.{answered_as, alone_as, short_as}
use Rattle.session_hub.proofs.messages.BindingLemmas.{anonymous_name, anonymous_found}
use Rattle.session_model.specs.ldap_msg.reading.Messages.{message_in}
use Rattle.session_hub.proofs.messages.answer.Goals as goal

-- the content says a simple bind
pub returns-in-Some-clause-ok : goal.returns-in-Some-clause-ok
returns-in-Some-clause-ok g c =
    answered_as c.args.allowed.terms c.answer_simple_bind.result _ _ (entries_of (g.D.Dir.rows c.args.dir.now)) (entries_of (g.D.Dir.rows c.args.dir.now)) _ _ _ _ _ (rw c.in-Some.is at c.bind_in.ensures.message) refl
    (alone_as c.args.allowed.terms.keeps c.args.out.now.changes.items c.answer_simple_bind.result (Some (message_for c.in-Some.request)) (entries_of (g.D.Dir.rows c.args.dir.now)) (entries_of (g.D.Dir.rows c.args.dir.now))
    c.args.who.now c.answer_simple_bind.new.who c.args.out.now.replies.items c.answer_simple_bind.new.out.items c.answer_simple_bind.ensures.ok)

pub returns-in-Some-clause-short : goal.returns-in-Some-clause-short
returns-in-Some-clause-short g c =
    short_as c.args.allowed.terms c.answer_simple_bind.result _ _ (entries_of (g.D.Dir.rows c.args.dir.now)) _ _ (rw c.in-Some.is at c.bind_in.ensures.message) refl c.answer_simple_bind.ensures.short

-- an anonymous bind is read as a simple one, of no name
pub returns-in-Some-clause-succeeds : goal.returns-in-Some-clause-succeeds
returns-in-Some-clause-succeeds g c = λ bind room.
    c.answer_simple_bind.ensures.succeeds (anonymous_name (message_in c.args.content.now) c.in-Some.request bind (rw c.in-Some.is at c.bind_in.ensures.message)) (rw c.in-Some.is at c.bind_in.ensures.id) room

pub returns-in-None-clause-succeeds : goal.returns-in-None-clause-succeeds
returns-in-None-clause-succeeds g c = λ bind room. absurd (anonymous_found (message_in c.args.content.now) bind (rw c.in-None.is at c.bind_in.ensures.exact))
