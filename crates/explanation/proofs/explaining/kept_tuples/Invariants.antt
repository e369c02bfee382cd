-- What is said so far, and those that are left.
use Rattle.std.proofs.Common.{◌≡◌, ◌++◌, map}
use Rattle.std.specs.Vec.Iter.{into_iter_items}
use Rattle.explanation.specs.Candidates.{kept_from}
use Rattle.explanation.proofs.explaining.kept_tuples.Given as goal

abbrev pub invariant-loop-one : goal.invariant-loop-one
invariant-loop-one l = l.kept.items ++ map kept_from (into_iter_items l.one-iterator) ≡ map kept_from l.fn.candidates.items
