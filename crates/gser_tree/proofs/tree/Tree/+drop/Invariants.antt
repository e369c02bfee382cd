-- What is left is no deeper than the whole.
use Rattle.std.proofs.Common.{◌≤◌}
use Rattle.gser_tree.specs.declared.tree.Tree.{size-Tree}
use Rattle.gser_tree.proofs.tree.Tree.+drop.Given as goal

abbrev pub invariant-loop-self : goal.invariant-loop-self
invariant-loop-self l = size-Tree l.self ≤ size-Tree l.initial.self
