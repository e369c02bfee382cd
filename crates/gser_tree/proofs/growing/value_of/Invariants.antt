-- What is left of the tokens, over what has come, gives what all tokens give; their number falls.
use Rattle.std.proofs.Common.{◌≡◌, vec_len}
use Rattle.gser_tree.specs.Growing.{grow_all, fresh}
use Rattle.gser_tree.specs.Tree.{stack_of}
use Rattle.gser_tree.proofs.growing.value_of.Given as goal

abbrev pub invariant-tokens : goal.invariant-tokens
invariant-tokens l = grow_all l.left.items (stack_of l.growing) ≡ grow_all l.initial.left.items fresh

abbrev pub decreases-tokens : goal.decreases-tokens
decreases-tokens l = vec_len l.left
