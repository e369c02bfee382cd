-- The RDNs so far are the same, so those that are left decide.
use Rattle.std.proofs.Common.{◌≡◌, drop}
use Rattle.std.specs.Cmp.Lexicographic.{pointwise}
use Rattle.hush_laws.specs.Equality.{are_equal_pairs, are_equal_names}
use Rattle.hush_laws.proofs.equality.are_equal_names.Given as goal

abbrev pub invariant-loop-index : goal.invariant-loop-index
invariant-loop-index l = pointwise (pointwise are_equal_pairs) (drop l.index l.one) (drop l.index l.other) ≡ are_equal_names l.one l.other
