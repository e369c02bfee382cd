use Rattle.std.proofs.Common.{◌≡◌, ◌-◌, ◌++◌, length, refl, subst, arith}
use Rattle.hush_watch.specs.NextMessages.{IsFirst}
use Rattle.hush_watch.proofs.FirstLemmas.{next-first, next-none, next-fits}
use Rattle.hush_watch.proofs.next_message.next_message.Goals as goal

-- a message stands across both
pub returns-in-Some-clause-ok : goal.returns-in-Some-clause-ok
returns-in-Some-clause-ok c =
    let count : c.saturating_sub-count.result ≡ length c.in-Some.octets - length c.args.unread.now = omega (arith, c.saturating_sub-count.ensures, c.len.ensures.exact) in
    next-first c.args.unread.now c.args.piece.now c.in-Some.octets _ (subst (IsFirst (c.args.unread.now ++ c.args.piece.now)) c.in-Some.is c.in_ok-octets.ensures.ok) refl count

pub returns-in-Some-clause-fits : goal.returns-in-Some-clause-fits
returns-in-Some-clause-fits c =
    let count : c.saturating_sub-count.result ≡ length c.in-Some.octets - length c.args.unread.now = omega (arith, c.saturating_sub-count.ensures, c.len.ensures.exact) in
    next-fits c.args.unread.now c.args.piece.now c.in-Some.octets c.saturating_sub-count.result (subst (IsFirst (c.args.unread.now ++ c.args.piece.now)) c.in-Some.is c.in_ok-octets.ensures.ok) count

-- or none does
pub returns-in-None-clause-ok : goal.returns-in-None-clause-ok
returns-in-None-clause-ok c = next-none c.args.unread.now c.args.piece.now (subst (IsFirst (c.args.unread.now ++ c.args.piece.now)) c.in-None.is c.in_ok-octets.ensures.ok)
