-- What is copied so far and what is left are all.
use Rattle.dir_tree.specs.Scope.{scoped}
use Rattle.dir_tree.specs.declared.scope.Scope.TheVariants.{Sub}
use Rattle.dir_tree.specs.tree.Numbered.{entries_of, entries_at}
use Rattle.event_replay.proofs.tree_copy.CopyLemmas.{IsCopied}
use Rattle.event_replay.proofs.tree_copy.copied_below.Given as goal

abbrev pub invariant-loop-number : goal.invariant-loop-number
invariant-loop-number l = IsCopied (entries_at l.tree (scoped Sub l.fn.base.0 l.tree)) (entries_of l.copy) (entries_at l.tree l.number-iterator)
