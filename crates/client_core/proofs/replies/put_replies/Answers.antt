use Rattle.client_core.proofs.replies.StreamLemmas.{texts-step, message-within, less-left}
use Rattle.client_core.proofs.replies.put_replies.Goals as goal

-- the message is there
pub split_at-requires : goal.split_at-requires
split_at-requires c = message-within c.loop-length.rest.now c.in-Some.length c.in-Some.ensures.some

-- less is left
pub loop-length-smaller : goal.loop-length-smaller
loop-length-smaller c = less-left c.loop-length.rest.now c.split_at-in-Some.result.1.now c.in-Some.length c.in-Some.ensures.some c.split_at-in-Some.ensures.back

-- the text of a message more was put
pub loop-length-preserved : goal.loop-length-preserved
loop-length-preserved c =
    texts-step c.loop-length.out.items c.loop-length.rest.now _ c.put_message.new.out.items c.split_at.result.0.now c.split_at-in-Some.result.1.now c.in-Some.length
    c.in-Some.ensures.some c.split_at.ensures.front c.split_at-in-Some.ensures.back c.in_ok-put_message.ensures.ok c.loop-length.invariant
