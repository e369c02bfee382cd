-- The subentries so far, and those of the points that are left, are all; and a specific point was met or is left.
use Rattle.std.proofs.Common.{◌≡◌, ◌++◌, ◌||◌, map, length}
use Rattle.std.specs.Prelude.{flat_map}
use Rattle.admin_scope.specs.Walking.{points_up, has_specific}
use Rattle.admin_scope.specs.Finding.{numbers_by}
use Rattle.admin_scope.proofs.subentries.WalkLemmas.{any_specific}
use Rattle.admin_scope.proofs.subentries.below_points.Given as goal

abbrev pub invariant-loop-point : goal.invariant-loop-point
invariant-loop-point l =
    (map (λ no. no.0) l.found.items ++ flat_map (numbers_by l.tree l.entry l.subtrees) l.point-iterator
    ≡ flat_map (numbers_by l.tree l.entry l.subtrees) (points_up (length l.entry.name) l.entry.name l.tree))
    × ((l.is_governed || any_specific l.tree l.point-iterator) ≡ has_specific (length l.entry.name) l.entry.name l.tree)
