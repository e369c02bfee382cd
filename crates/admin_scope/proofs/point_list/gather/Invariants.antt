-- The numbers so far, and those that are left, are all.
use Rattle.std.proofs.Common.{◌≡◌, ◌++◌, map}
use Rattle.admin_scope.specs.Walking.{walk_of}
use Rattle.admin_scope.proofs.point_list.gather.Given as goal

abbrev pub invariant-loop-number : goal.invariant-loop-number
invariant-loop-number l = map (λ no. no.0) l.numbers.items ++ l.number-iterator ≡ walk_of l.name l.tree
