use Rattle.std.proofs.Common.{◌≡◌, ◌++◌, length}
use Rattle.client_core.specs.ReplyTexts.{replies_text}
use Rattle.client_core.proofs.replies.put_replies.Given as goal

-- the texts so far and those of the messages that are left are those of all
abbrev pub invariant-loop-length : goal.invariant-loop-length
invariant-loop-length l = l.out.items ++ replies_text l.rest ≡ l.initial.out.items ++ replies_text l.octets

abbrev pub decreases-loop-length : goal.decreases-loop-length
decreases-loop-length l = length l.rest
