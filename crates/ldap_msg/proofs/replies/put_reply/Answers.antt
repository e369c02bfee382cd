-- The message of a result with no matched name is short.
use Rattle.std.proofs.lemmas.Result.{on_ok_weaker}
use Rattle.ldap_msg.proofs.plain.PlainLemmas.{plain_short}
use Rattle.ldap_msg.proofs.replies.put_reply.Goals as goal

pub returns-in-Some-clause-short : goal.returns-in-Some-clause-short
returns-in-Some-clause-short c =
    on_ok_weaker c.put_plain.result (λ ok. plain_short c.args.id c.in-Some.code c.args.reply.now c.if-id-le-MAX_ID.true c.in-Some.ensures.content) c.put_plain.ensures.ok
