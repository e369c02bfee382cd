-- The subentries so far, and those that are left, are all.
use Rattle.std.proofs.Common.{◌≡◌, ◌++◌, map, drop}
use Rattle.admin_scope.specs.Finding.{applying_by}
use Rattle.admin_scope.proofs.subentries.list_below.Given as goal

abbrev pub invariant-loop-subentry : goal.invariant-loop-subentry
invariant-loop-subentry l =
    map (λ no. no.0) l.found.items ++ applying_by l.tree l.entry (drop l.subentry-index l.subtrees) l.point
    ≡ map (λ no. no.0) l.initial.found.items ++ applying_by l.tree l.entry l.subtrees l.point
