-- The next entry has a name, and comes after all that are copied.
use Rattle.std.proofs.Common.{sym}
use Rattle.dir_tree.specs.tree.Numbered.{entries_of}
use Rattle.event_replay.proofs.tree_copy.CopyLemmas.{copied-next, copied-named, copied-last}
use Rattle.event_replay.proofs.tree_copy.copied_below.Goals as goal

pub append-requires-clause-named : goal.append-requires-clause-named
append-requires-clause-named c =
    copied-named _ _ c.in-Some-at.entry.now _
    (copied-next c.args.tree.now _ (entries_of c.loop-number.copy) c.loop-number.number-iterator c.in-Some.number.0 c.next.new.self _ c.loop-number.invariant c.in-Some.ensures.steps (sym c.in-Some-at.ensures.exact))

pub append-requires-clause-last : goal.append-requires-clause-last
append-requires-clause-last c =
    copied-last _ _ c.in-Some-at.entry.now _
    (copied-next c.args.tree.now _ (entries_of c.loop-number.copy) c.loop-number.number-iterator c.in-Some.number.0 c.next.new.self _ c.loop-number.invariant c.in-Some.ensures.steps (sym c.in-Some-at.ensures.exact))
