-- The pairs so far are the same, so those that are left decide.
use Rattle.std.proofs.Common.{◌≡◌, length}
use Rattle.std.specs.Cmp.Lexicographic.{pointwise}
use Rattle.hush_laws.specs.Equality.{are_equal_pairs}
use Rattle.hush_laws.proofs.equality.are_all_pairs.Given as goal

abbrev pub invariant-loop-first : goal.invariant-loop-first
invariant-loop-first l = pointwise are_equal_pairs l.left l.right ≡ pointwise are_equal_pairs l.one l.other

abbrev pub decreases-loop-first : goal.decreases-loop-first
decreases-loop-first l = length l.left
