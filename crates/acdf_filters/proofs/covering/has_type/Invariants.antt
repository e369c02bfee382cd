-- The types so far are others, so those that are left decide.
use Rattle.std.proofs.Common.{◌≡◌, map, drop}
use Rattle.acdf_filters.specs.Covering.{has_type}
use Rattle.acdf_filters.proofs.covering.has_type.Given as goal

abbrev pub invariant-loop-other : goal.invariant-loop-other
invariant-loop-other l =
    has_type l.kind.0 (map (λ other. other.0) (drop l.other-index l.kinds)) ≡ has_type l.kind.0 (map (λ other. other.0) l.kinds)
