-- The attributes so far are the same, so those that are left decide.
use Rattle.std.proofs.Common.{◌≡◌}
use Rattle.std.specs.Cmp.Lexicographic.{pointwise}
use Rattle.hush_laws.specs.Equality.{are_equal_attributes}
use Rattle.hush_laws.proofs.equality.are_all_attributes.Given as goal

abbrev pub invariant-loop-kind : goal.invariant-loop-kind
invariant-loop-kind l = record {
  next : (goal.iterator-loop-kind).can_next l.left;
  finite : (goal.iterator-loop-kind).is_finite l.left;
  left : pointwise are_equal_attributes l.left l.right ≡ pointwise are_equal_attributes l.one.attributes l.other.attributes;
}
