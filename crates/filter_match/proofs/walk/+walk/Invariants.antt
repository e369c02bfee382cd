-- The members so far were walked over.
use Rattle.filter_match.specs.walk.OnTheWay.{IsOnTheWay}
use Rattle.filter_match.proofs.walk.+walk.Given as goal

abbrev pub invariant-loop-member : goal.invariant-loop-member
invariant-loop-member g l = IsOnTheWay l.every (g.J.Judge.answers l.judge) l.question l.member-items l.member-index l.tests l.holds l.rest

abbrev pub invariant-loop-member-2 : goal.invariant-loop-member-2
invariant-loop-member-2 g l = IsOnTheWay l.every (g.J.Judge.answers l.judge) l.question l.member-items l.member-index l.tests l.holds l.rest
