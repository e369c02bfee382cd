use Rattle.std.proofs.Common.{◌≡◌, ◌-◌, length}
use Rattle.dir_tree.specs.tree.Numbered.{entries_of}
use Rattle.session_hub.specs.Outgoing.{put_in}
use Rattle.session_hub.specs.Answers.{SaysSoFar}
use Rattle.session_hub.proofs.stream.speak.Given as goal

-- what was said so far, and what is said to the rest, is what is said to the stream; before the first answer the queue is
-- what it was
abbrev pub invariant-messages : goal.invariant-messages
invariant-messages g l = SaysSoFar l.allowed.terms l.allowed.room (entries_of (g.D.Dir.rows l.fn.dir)) l.fn.who l.stream (put_in l.fn.out) (put_in l.out) (entries_of (g.D.Dir.rows l.dir)) l.who l.read l.answered
    × (l.answered ≡ 0 → (l.read ≡ 0) × (l.out.replies ≡ l.fn.out.replies))

abbrev pub decreases-messages : goal.decreases-messages
decreases-messages g l = length l.stream - l.read
